use Rattle.std.proofs.Common.{◌+◌, ◌^◌, ◌<◌, length, vec_len, sym, ap, subst, ◌∙◌, arith}
use Rattle.flow_code.specs.Contents.{yields}
use Rattle.flow_lower.proofs.WellFormed.{has_room}
use Rattle.node_tree.specs.Tree.{block}
use Rattle.flow_code.specs.declared.statement.Statement.TheVariants as flat
use Rattle.flow_code.specs.Registers.{registers, above}
use Rattle.flow_lower.specs.Lower.{labels, copies, function_lines}
use Rattle.flow_lower.proofs.Emitted.{emit_function}
use Rattle.flow_lower.proofs.script.lower_code.Goals as goal

pub returns-clause-lowers : goal.returns-clause-lowers
returns-clause-lowers c = record {
  header = c.in_ok-share_header.ensures.is;
  labels = omega (arith, c.len-2.ensures, c.in_ok-lower_nodes.ensures.drawn, c.in_ok-fail.ensures.drawn, c.new-labels.ensures.len, ap (λ l. labels (block l)) c.as_slice-nodes.ensures);
  registers = c.in_ok-registers.ensures ∙ ap (λ ls. above (registers ls)) (c.deref.ensures.value ∙ sym c.from_vec.ensures);
  body =
      c.from_vec.ensures
      ∙ emit_function (length c.args.code.now.header.params) c.args.code.now.free _ _ _ _ c.as_slice-nodes.result.now _ _ _ _ _ c.new-labels.ensures.len c.in_ok-fail.ensures.number c.in_ok-fail.ensures.drawn c.new-exits.ensures.items
      (λ tail. c.in_ok-put_parameters.ensures.lines tail ∙ ap (λ n. copies flat.Parameter n 0 0 tail) c.len.ensures) (c.in_ok-put_parameters.ensures.many ∙ c.len.ensures) c.in_ok-put_free.ensures c.in_ok-lower_nodes.ensures.lines c.in_ok-put.ensures c.in_ok-put_fail.ensures
      ∙ ap (λ l. function_lines (length c.args.code.now.header.params) c.args.code.now.free (block l)) c.as_slice-nodes.ensures;
}

pub returns-clause-room : goal.returns-clause-room
returns-clause-room c =
    let out = c.put_fail.new.out in
    let drawn = c.lower_nodes.new.labels in
    let few : vec_len drawn < 2 ^ 63 = omega (arith, drawn.ok, drawn.small) in
    let short : length out.items < 2 ^ 63 = omega (arith, out.ok, out.small) in
    subst (λ ls. c.len-2.result + yields ls + 1 < 2 ^ 64) (sym c.from_vec.ensures) (has_room c.len-2.result out.items (omega (arith, c.len-2.ensures, few)) short)
