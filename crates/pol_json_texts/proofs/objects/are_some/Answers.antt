use Rattle.pol_json_texts.proofs.ObjectLemmas.{some_members}
use Rattle.pol_json_texts.proofs.objects.are_some.Goals as goal

pub returns : goal.returns
returns c = some_members c.is_empty.result c.args.members.now.entries c.is_empty.ensures
