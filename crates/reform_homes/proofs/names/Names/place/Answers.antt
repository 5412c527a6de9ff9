use Rattle.std.proofs.Common.{◌∙◌, sym}
use Rattle.reform_homes.proofs.Places.{missing}
use Rattle.reform_homes.proofs.names.Names.place.Goals as goal

pub returns-in-None : goal.returns-in-None
returns-in-None c = c.len.ensures ∙ sym (missing c.args.self.now c.args.name.now (sym c.in-None.ensures))
