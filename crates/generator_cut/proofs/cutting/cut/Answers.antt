use Rattle.std.proofs.Common.{sym, subst}
use Rattle.c_meaning.specs.Written.{IsProgram}
use Rattle.generator_cut.specs.Correct.{DoesTheSame, HasHeads, KeepsEach}
use Rattle.generator_cut.proofs.AllSaved.{programs_same}
use Rattle.generator_cut.proofs.Kept.{heads_are, keeps_each}
use Rattle.generator_cut.proofs.Texts.{is_program}
use Rattle.generator_cut.proofs.cutting.cut.Goals as goal

pub returns-clause-same : goal.returns-clause-same
returns-clause-same c = subst (DoesTheSame c.args.script.now) (sym c.in_ok-program.ensures.is) (programs_same c.args.script.now c.requires.well_formed)

pub returns-clause-program : goal.returns-clause-program
returns-clause-program c =
    subst IsProgram (sym c.in_ok-program.ensures.is) (is_program c.args.script.now c.requires.counted c.requires.headings c.requires.taken c.requires.well_formed c.requires.room c.in_ok-program.ensures.fits)

pub returns-clause-heads : goal.returns-clause-heads
returns-clause-heads c = subst (HasHeads c.args.script.now) (sym c.in_ok-program.ensures.is) (heads_are c.args.script.now c.requires.counted.within)

pub returns-clause-keeps : goal.returns-clause-keeps
returns-clause-keeps c = subst (λ p. KeepsEach c.args.script.now.functions (p.functions)) (sym c.in_ok-program.ensures.is) (keeps_each c.args.script.now.functions)
