-- Runs of main rows: a larger bound prints no less, and corresponding rows have the same run.
use Rattle.std.proofs.Common.{◌≡◌, ℕ, refl, sym, ap, subst, arith}
use Rattle.nu_run.specs.declared.End as run_end
use Rattle.nu_run.specs.Runs as runs
use Rattle.nu_rows.specs.Rows.{End, Begin, Res, Spent, Paused, Ended, Row, does}
use Rattle.nu_rows.specs.Sim.{printed, Grow, Places, Ends, Below, other_places, other_ends, Both}
use Rattle.nu_rows.specs.Driver.{told, main_run}
use Rattle.nu_rows.proofs.Grow.{grows_to, does_grow}

told_printed : {S : Type 0} (shows : End → S → run_end.End) (r : Res S) → runs.printed_by (told shows r) ≡ printed r
told_printed shows (Spent o) = refl
told_printed shows (Paused o s v p) = refl
told_printed shows (Ended o s e) = refl

told_grows : {S : Type 0} (shows : End → S → run_end.End) (r r' : Res S) → Grow r r' → runs.Below (told shows r) (told shows r')
told_grows shows (Spent o) r' h = subst (λ u. runs.IsPrefix o u) (sym (told_printed shows r')) h
told_grows shows (Paused o s v p) r' h = ap (told shows) h
told_grows shows (Ended o s e) r' h = ap (told shows) h

pub main_monotone : {S I : Type 0} (rows : I → Row S I) (shows : End → S → run_end.End) (main : Row S I) (s : S) → runs.IsMonotone (main_run rows shows main s)
main_monotone rows shows main s m n le = told_grows shows (does rows main Begin s m) (does rows main Begin s n) (grows_to (does rows main Begin s) (does_grow rows main Begin s) m n le)

module _ {S T : Type 0} (P : Places S T) (Q : Ends S T) (shows : End → S → run_end.End) (shows' : End → T → run_end.End) (same : (e : End) (s : S) (e' : End) (t : T) → Q e s e' t → shows e s ≡ shows' e' t) where
  pub told_below : (r : Res S) (c : Res T) → Below P Q r c → runs.Below (told shows r) (told shows' c)
  told_below (Spent o) c h = subst (λ u. runs.IsPrefix o u) (sym (told_printed shows' c)) h
  told_below (Paused o s v p) (Spent o') h = absurd h
  told_below (Paused o s v p) (Paused o' t v' q) h = cc h.0
  told_below (Paused o s v p) (Ended o' t e') h = absurd h
  told_below (Ended o s e) (Spent o') h = absurd h
  told_below (Ended o s e) (Paused o' t v' q) h = absurd h
  told_below (Ended o s e) (Ended o' t e') h = cc (h.0, same e s e' t h.1)

-- main rows that correspond within each bound have the same run
pub main_same : {S T I J : Type 0} (rows : I → Row S I) (cols : J → Row T J) (P : Places S T) (Q : Ends S T) (shows : End → S → run_end.End) (shows' : End → T → run_end.End) → ((e : End) (s : S) (e' : End) (t : T) → Q e s e' t → shows e s ≡ shows' e' t) → (r : Row S I) (c : Row T J) (s : S) (t : T) → ((L : ℕ) → Both L P Q (does rows r Begin s) (does cols c Begin t)) → runs.Same (main_run rows shows r s) (main_run cols shows' c t)
main_same rows cols P Q shows shows' same r c s t h = record {
  there = λ n. let a = (h n).there n (omega arith) in (a.0, told_below P Q shows shows' same _ _ a.1);
  back = λ n. let a = (h n).back n (omega arith) in (a.0, told_below (other_places P) (other_ends Q) shows' shows (λ e' t e s x. sym (same e s e' t x)) _ _ a.1);
}
