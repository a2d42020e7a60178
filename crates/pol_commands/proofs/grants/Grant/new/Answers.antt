use Rattle.std.proofs.Common.{sym}
use Rattle.pol_commands.proofs.GrantLemmas.{granted}
use Rattle.pol_commands.proofs.grants.Grant.new.Goals as goal

pub returns : goal.returns
returns c = sym (granted _)
