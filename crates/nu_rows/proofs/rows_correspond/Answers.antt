use Rattle.nu_rows.specs.Laws.{places_of, ends_of, states_of}
use Rattle.nu_rows.proofs.Congruence.{act_both, pause_both, part_left, part_right, then_both, loop_both, sub_both}
use Rattle.nu_rows.proofs.OneSide.{read_right, tidy_right}
use Rattle.nu_rows.proofs.Driving.{main_same}
use Rattle.nu_rows.proofs.rows_correspond.Goals as goal

pub returns : goal.returns
returns g c = record {
  act = λ rows cols L Pre Q f g h. act_both rows cols L (λ p s q t. ⊥) (states_of Pre) (ends_of Q) f g (λ p s q t x. x) h;
  pause = λ rows cols L Pre R Q v f h. pause_both rows cols L (states_of Pre) (states_of R) (ends_of Q) v f h;
  item_left = λ rows cols L P Pre Q i c h. part_left rows cols L (places_of P) (states_of Pre) (ends_of Q) i c h;
  item_right = λ rows cols L P Pre Q r j h. part_right rows cols L (places_of P) (states_of Pre) (ends_of Q) r j h;
  then = λ rows cols L P₁ P₂ Pre R Q r c K D h next. then_both rows cols L (places_of P₁) (λ e e'. places_of (P₂ e e')) (states_of Pre) (ends_of R) (ends_of Q) r c K D h next;
  loop = λ rows cols L P Inv Q i r j c ei ej h. loop_both rows cols L (places_of P) (states_of Inv) (ends_of Q) i r j c ei ej h;
  body = λ rows cols L Pre Q Pb Qb f g h. sub_both rows cols L (λ p s q t. ⊥) (states_of Pre) (ends_of Q) f g (λ p s q t x. x) (λ s t pre. record { places = places_of (Pb s t); ends = ends_of (Qb s t); entries = h s t pre });
  reads = λ rows cols L P₂ Pre Mid Q r f D silent next. read_right rows cols L (λ e. places_of (P₂ e)) (states_of Pre) (λ e. states_of (Mid e)) (ends_of Q) r f D silent next;
  tidies = λ rows cols L P₁ Pre R Q r c D done h. tidy_right rows cols L (places_of P₁) (states_of Pre) (ends_of R) (ends_of Q) r c D done h;
  main = λ rows cols P Q shows shows' same r c s t h. main_same rows cols (places_of P) (ends_of Q) shows shows' same r c s t h;
}
