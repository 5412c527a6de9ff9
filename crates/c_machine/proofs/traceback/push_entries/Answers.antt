use Rattle.std.proofs.Common.{◌≡◌, ◌++◌, string_bytes, slice_get, rules}
use Rattle.c_machine.specs.Values.{text_at}
use Rattle.c_machine.proofs.Traces.{entries_on}
use Rattle.c_machine.proofs.traceback.push_entries.Goals as goal

pub loop-place-preserved : goal.loop-place-preserved
loop-place-preserved c =
    let pushed : string_bytes c.push_entry.new.text ≡ string_bytes c.loop-place.text ++ text_at c.args.file.now (slice_get c.args.entries.now c.loop-place.place) = search rules in
    entries_on c.args.file.now c.args.entries.now c.loop-place.place (string_bytes c.loop-place.text) (string_bytes c.push_entry.new.text) _ pushed c.loop-place.invariant
