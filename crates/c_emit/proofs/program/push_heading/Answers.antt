use Rattle.std.proofs.Common.{ap, ◌∙◌, ◌++◌, string_bytes}
use Rattle.nu_text.specs.Strings.{string_text}
use Rattle.c_emit.proofs.Pushes.{three_pieces}
use Rattle.c_emit.proofs.program.push_heading.Goals as goal

pub returns : goal.returns
returns c =
    three_pieces c.push_counts.result _ _ _ _ _ (string_text c.args.program.now.name) _ c.in_ok-push_form.ensures
    (c.in_ok-push_string.ensures ∙ ap (λ l. string_bytes c.push_form.new.text ++ string_text l) (c.as_bytes.ensures.value ∙ c.as_str.ensures)) c.push_counts.ensures
