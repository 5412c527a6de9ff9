-- Entries one after another.
use Rattle.std.proofs.Common.{◌≡◌, ℕ, zero, suc, ◌+◌, List, [], ◌∷◌, ◌++◌, Option, None, refl, sym, ◌∙◌, ap, append_assoc, append-nil, add-one, drop}
use Rattle.std.specs.Prelude.{slice_get}
use Rattle.nu_value.specs.declared.entries.Entry.{Entry}
use Rattle.nu_calls.specs.Traceback.{entries_text}
use Rattle.c_machine.specs.Values.{text_at}

next : (file : List ℕ) (xs : List Entry) (i : ℕ) → entries_text file (drop i xs) ≡ text_at file (slice_get xs i) ++ entries_text file (drop (suc i) xs)
next file [] zero = refl
next file [] (suc i) = refl
next file (x ∷ xs) zero = refl
next file (x ∷ xs) (suc i) = next file xs i

pub entries_on : (file : List ℕ) (xs : List Entry) (i : ℕ) (text new all : List ℕ) → new ≡ text ++ text_at file (slice_get xs i) → text ++ entries_text file (drop i xs) ≡ all → new ++ entries_text file (drop (i + 1) xs) ≡ all
entries_on file xs i text new all p h =
    rw (add-one i)
    (ap (λ l. l ++ entries_text file (drop (suc i) xs)) p ∙ append_assoc text (text_at file (slice_get xs i)) (entries_text file (drop (suc i) xs)) ∙ ap (λ l. text ++ l) (sym (next file xs i)) ∙ h)

pub entries_end : (file text : List ℕ) (o : Option Entry) → o ≡ None → text ≡ text ++ text_at file o
entries_end file text o h = rw h (sym (append-nil text))
