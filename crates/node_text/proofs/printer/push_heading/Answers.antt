use Rattle.std.proofs.Common.{ap, ◌∙◌, ◌++◌, string_bytes}
use Rattle.nu_text.specs.Strings.{string_text}
use Rattle.c_emit.proofs.Pushes.{three_pieces}
use Rattle.node_text.proofs.printer.push_heading.Goals as goal

pub returns : goal.returns
returns c =
    three_pieces c.push_counts.result _ _ _ _ _ (string_text c.args.script.now.name) _ c.in_ok-push_form.ensures
    (c.in_ok-push_string.ensures ∙ ap (λ l. string_bytes c.push_form.new.text ++ string_text l) (c.as_bytes.ensures.value ∙ c.as_str.ensures)) (rw c.builtins_of.ensures at c.push_counts.ensures)
