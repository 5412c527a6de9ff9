use Rattle.reform_unpack.proofs.Stores.{place_stored}
use Rattle.reform_unpack.proofs.assigned.assign.Goals as goal

pub returns-clause-carries : goal.returns-clause-carries
returns-clause-carries c = λ h low st le.
    rw (c.in_ok-block.ensures, c.in_ok-store.ensures, c.in_ok-to.ensures.ok, c.in_ok-to.ensures.number) (place_stored h low _ c.args.value c.args.place st le)
