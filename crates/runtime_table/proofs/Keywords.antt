-- The keys of a dict, place by place.
use Rattle.std.proofs.Common.{◌≡◌, ℕ, zero, suc, ◌+◌, [], ◌∷◌, true, false, refl, sym, drop, add-one}
use Rattle.std.specs.Prelude.{slice_get}
use Rattle.nu_value.specs.Pairs.{PairList}
use Rattle.op_forms.specs.Fits.{are_texts}
use Rattle.runtime_table.specs.Keywords.{text_at}

step : (ps : PairList) (i : ℕ) → text_at (slice_get ps i) ≡ true → are_texts (drop (suc i) ps) ≡ are_texts (drop i ps)
step [] zero e = refl
step [] (suc i) e = refl
step (p ∷ ps) zero e = rw e refl
step (p ∷ ps) (suc i) e = step ps i e

stop : (ps : PairList) (i : ℕ) → text_at (slice_get ps i) ≡ false → are_texts (drop i ps) ≡ false
stop [] i e = absurd (cc)
stop (p ∷ ps) zero e = rw e refl
stop (p ∷ ps) (suc i) e = stop ps i e

pub texts_on : (ps : PairList) (i : ℕ) → text_at (slice_get ps i) ≡ true → are_texts (drop i ps) ≡ are_texts ps → are_texts (drop (i + 1) ps) ≡ are_texts ps
texts_on ps i e h = rw (add-one i, step ps i e) h

pub texts_end : (ps : PairList) (i : ℕ) → text_at (slice_get ps i) ≡ false → are_texts (drop i ps) ≡ are_texts ps → false ≡ are_texts ps
texts_end ps i e h = rw (sym h, stop ps i e) refl
