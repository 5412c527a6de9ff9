use Rattle.std.proofs.Common.{◌≡◌, ◌∙◌, rules, string_bytes}
use Rattle.c_emit.proofs.program.emit.Goals as goal

pub returns : goal.returns
returns c =
    let same : c.into_bytes.result.items ≡ string_bytes c.in_ok-text.text = search rules in
    record { program = c.requires; spelled = same ∙ c.in_ok-text.ensures }
