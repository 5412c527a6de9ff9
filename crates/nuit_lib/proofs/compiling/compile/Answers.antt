use Rattle.std.proofs.Common.{refl}
use Rattle.nuit_lib.proofs.Composed.{counted, headings, all_taken, is_program}
use Rattle.nuit_lib.proofs.compiling.compile.Goals as goal

pub cut-requires-clause-counted : goal.cut-requires-clause-counted
cut-requires-clause-counted c = counted _ c.args.script.now c.in_ok-nodes.nodes c.in_ok-flat.flat c.in_ok-nodes.ensures c.in_ok-flat.ensures.lowers c.in_ok-flat.ensures.keeps

pub cut-requires-clause-headings : goal.cut-requires-clause-headings
cut-requires-clause-headings c = headings _ c.args.script.now c.in_ok-nodes.nodes c.in_ok-flat.flat c.in_ok-nodes.ensures c.in_ok-flat.ensures.lowers c.in_ok-flat.ensures.keeps

pub cut-requires-clause-taken : goal.cut-requires-clause-taken
cut-requires-clause-taken c = all_taken _ c.args.script.now c.in_ok-nodes.nodes c.in_ok-flat.flat c.in_ok-nodes.ensures c.in_ok-flat.ensures.lowers c.in_ok-flat.ensures.keeps

pub returns : goal.returns
returns c = record {
  built = c.in_ok-nodes.ensures.built;
  program = c.in_ok-program.program;
  is_text = c.in_ok-text.ensures;
  is = is_program _ c.args.script.now c.in_ok-nodes.nodes c.in_ok-flat.flat c.in_ok-nodes.ensures c.in_ok-flat.ensures.lowers c.in_ok-flat.ensures.keeps c.runs_never_end_undefined.ensures c.the_table_keeps_law.ensures c.accepted_scripts_never_end_undefined.ensures
      c.in_ok-flat.ensures.same c.in_ok-program.program c.in_ok-program.ensures.same c.in_ok-program.ensures.heads (refl, (c.requires.scopes, c.requires.keeps));
}
