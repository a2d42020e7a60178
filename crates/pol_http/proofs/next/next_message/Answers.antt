use Rattle.pol_http.proofs.NextLemmas.{whole_exactly, refused_exactly, continues_exactly, partial_exactly}
use Rattle.pol_http.proofs.next.next_message.Goals as goal

pub returns-clause-whole : goal.returns-clause-whole
returns-clause-whole c = whole_exactly c.args.bytes.now c.completed.result c.completed.ensures

pub returns-clause-refused : goal.returns-clause-refused
returns-clause-refused c = refused_exactly c.args.bytes.now c.completed.result c.completed.ensures

pub returns-clause-continues : goal.returns-clause-continues
returns-clause-continues c = continues_exactly c.args.bytes.now c.completed.result c.completed.ensures

pub returns-clause-partial : goal.returns-clause-partial
returns-clause-partial c = partial_exactly c.args.bytes.now c.completed.result c.completed.ensures
