-- The keywords of a dict, place by place.
use Rattle.std.proofs.Common.{◌≡◌, ℕ, zero, suc, ◌+◌, ◌<◌, [], ◌∷◌, refl, arith, drop, length, add-one}
use Rattle.std.specs.Prelude.{slice_get}
use Rattle.nu_value.specs.Names.{NameList}
use Rattle.nu_value.specs.Pairs.{PairList}
use Rattle.op_rules.specs.Calls.{keywords_of}
use Rattle.rt_call.specs.Pairs.{keyword_at}

step : (ps : PairList) (i : ℕ) (names : NameList) → i < length ps → keywords_of (drop i ps) names ≡ keywords_of (drop (suc i) ps) (keyword_at (slice_get ps i) names)
step [] i names p = absurd (omega arith)
step (p ∷ ps) zero names q = refl
step (p ∷ ps) (suc i) names q = step ps i names (omega arith)

pub keywords_on : (ps : PairList) (i : ℕ) (names : NameList) → i < length ps → keywords_of (drop i ps) names ≡ keywords_of (drop (i + 1) ps) (keyword_at (slice_get ps i) names)
keywords_on ps i names p = rw (add-one i) (step ps i names p)
