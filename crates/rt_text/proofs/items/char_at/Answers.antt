use Rattle.std.proofs.Common.{◌≡◌, length, slice_get, sym, ap, ◌∙◌, arith}
use Rattle.std.specs.Str.{chars}
use Rattle.nu_text.specs.Characters.{characters}
use Rattle.rt_text.proofs.Ascii.{plain_characters, byte_within, byte_past}
use Rattle.rt_text.proofs.items.char_at.Goals as goal

pub returns-in-Some : goal.returns-in-Some
returns-in-Some c =
    let text = ap characters c.as_str.ensures in
    let bytes = ap length c.as_bytes-bytes.ensures.value in
    let counted : characters c.as_str.result.now ≡ length c.as_str.result.now = omega (arith, text, bytes, c.length.ensures, c.if-length-bytes.false) in
    let same = plain_characters c.as_str.result.now c.as_str.utf8 counted in
    byte_within c.as_bytes-bytes.result.now c.args.place c.in-Some.byte.now c.in-Some.ensures.lookup.3.0 c.in-Some.ensures.lookup.1
    ∙ ap (λ l. slice_get l c.args.place) (c.as_bytes-bytes.ensures.value ∙ sym same ∙ ap chars c.as_str.ensures)

pub returns-in-None : goal.returns-in-None
returns-in-None c =
    let text = ap characters c.as_str.ensures in
    let bytes = ap length c.as_bytes-bytes.ensures.value in
    let counted : characters c.as_str.result.now ≡ length c.as_str.result.now = omega (arith, text, bytes, c.length.ensures, c.if-length-bytes.false) in
    let same = plain_characters c.as_str.result.now c.as_str.utf8 counted in
    byte_past c.as_bytes-bytes.result.now c.args.place c.in-None.ensures.lookup.3
    ∙ ap (λ l. slice_get l c.args.place) (c.as_bytes-bytes.ensures.value ∙ sym same ∙ ap chars c.as_str.ensures)
