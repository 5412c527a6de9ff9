-- Items that stand one after another: those that were read are the first of all that stand there.
use Rattle.std.proofs.Common.{◌≡◌, ℕ, ◌+◌, List, [], ◌∷◌, ◌++◌, length, refl, sym, ◌∙◌, ap, subst, append_assoc, arith}
use Rattle.std.proofs.lemmas.List.{append-nil}
use Rattle.std.specs.List.{AllByRecursion, flat_map}
use Rattle.c_meaning.specs.Text.{numbered}

pub all_more : {A : Type 0} (P : A → Type 0) (items : List A) (item : A) → AllByRecursion P items → P item → AllByRecursion P (items ++ item ∷ [])
all_more P [] item p q = (q, tt)
all_more P (a ∷ items) item p q = (p.0, all_more P items item p.1 q)

-- without numbers
pub flat_is : {A : Type 0} (text : A → List ℕ) (n : ℕ) (items : List A) → flat_map text items ≡ numbered (λ _. text) n items
flat_is text n [] = refl
flat_is text n (a ∷ items) = ap (λ l. text a ++ l) (flat_is text (n + 1) items)

-- one item more
pub numbered_more : {A : Type 0} (text : ℕ → A → List ℕ) (n k : ℕ) (items : List A) (item : A) (rest : List ℕ) → k ≡ n + length items → numbered text n (items ++ item ∷ []) ++ rest ≡ numbered text n items ++ (text k item ++ rest)
numbered_more text n k [] item rest e =
    let same : n ≡ k = omega (arith, e) in
    ap (λ m. (text m item ++ []) ++ rest) same ∙ ap (λ l. l ++ rest) (append-nil (text k item))
numbered_more text n k (a ∷ items) item rest e =
    let next : k ≡ (n + 1) + length items = omega (arith, e) in
    append_assoc (text n a) (numbered text (n + 1) (items ++ item ∷ [])) rest ∙ ap (λ l. text n a ++ l) (numbered_more text (n + 1) k items item rest next) ∙ sym (append_assoc (text n a) (numbered text (n + 1) items) (text k item ++ rest))

pub flat_more : {A : Type 0} (text : A → List ℕ) (items : List A) (item : A) (rest : List ℕ) → flat_map text (items ++ item ∷ []) ++ rest ≡ flat_map text items ++ (text item ++ rest)
flat_more text items item rest =
    ap (λ l. l ++ rest) (flat_is text 0 (items ++ item ∷ [])) ∙ numbered_more (λ _. text) 0 (0 + length items) items item rest refl ∙ ap (λ l. l ++ (text item ++ rest)) (sym (flat_is text 0 items))

-- what is left of all items behind those that were read
pub record Left {A : Type 0} (text : ℕ → A → List ℕ) (Is : A → Type 0) (n : ℕ) (read all : List A) (left rest : List ℕ) : Type 0 where
  pub more : List A
  pub next : ℕ
  pub next_is : next ≡ n + length read
  pub all_are : all ≡ read ++ more
  pub each : AllByRecursion Is more
  pub stand : left ≡ numbered text next more ++ rest

module _ {A : Type 0} (text : ℕ → A → List ℕ) (Is : A → Type 0) (Ends Close : List ℕ → Type 0)
    (both : (n : ℕ) (a b : A) (x y : List ℕ) → Is a → Is b → Ends x → Ends y → text n a ++ x ≡ text n b ++ y → (a ≡ b) × (x ≡ y))
    (ends : (n : ℕ) (a : A) (x : List ℕ) → Is a → Ends (text n a ++ x))
    (apart : (n : ℕ) (a : A) (x y : List ℕ) → Is a → Close y → text n a ++ x ≡ y → ⊥) where
  pub tail_ends : (n : ℕ) (items : List A) (x : List ℕ) → AllByRecursion Is items → Ends x → Ends (numbered text n items ++ x)
  tail_ends n [] x each e = e
  tail_ends n (a ∷ items) x each e = subst Ends (sym (append_assoc (text n a) (numbered text (n + 1) items) x)) (ends n a (numbered text (n + 1) items ++ x) each.0)

  pub left_of : (n : ℕ) (read all : List A) (left rest : List ℕ) → AllByRecursion Is read → AllByRecursion Is all → Ends left → Ends rest → Close rest → numbered text n read ++ left ≡ numbered text n all ++ rest → Left text Is n read all left rest
  left_of n [] all left rest p q g h c e = record { more = all; next = n; next_is = omega arith; all_are = refl; each = q; stand = e }
  left_of n (a ∷ read) [] left rest p q g h c e = absurd (apart n a (numbered text (n + 1) read ++ left) rest p.0 c (sym (append_assoc (text n a) (numbered text (n + 1) read) left) ∙ e))
  left_of n (a ∷ read) (b ∷ all) left rest p q g h c e =
      let one = both n a b (numbered text (n + 1) read ++ left) (numbered text (n + 1) all ++ rest) p.0 q.0 (tail_ends (n + 1) read left p.1 g) (tail_ends (n + 1) all rest q.1 h)
      (sym (append_assoc (text n a) (numbered text (n + 1) read) left) ∙ e ∙ append_assoc (text n b) (numbered text (n + 1) all) rest) in
      let more = left_of (n + 1) read all left rest p.1 q.1 g h c one.1 in
      let more_is = more.next_is in
      record { more = more.more; next = more.next; next_is = omega (arith, more_is); all_are = ap (λ x. x ∷ all) (sym one.0) ∙ ap (λ l. a ∷ l) more.all_are; each = more.each; stand = more.stand }

  pub lists_both : (n : ℕ) (xs ys : List A) (x y : List ℕ) → AllByRecursion Is xs → AllByRecursion Is ys → Ends x → Ends y → Close x → Close y → numbered text n xs ++ x ≡ numbered text n ys ++ y → (xs ≡ ys) × (x ≡ y)
  lists_both n xs ys x y p q g h c d e = let l = left_of n xs ys x y p q g h d e in go l.more l.next l.all_are l.each l.stand
    where
      go : (more : List A) (next : ℕ) → ys ≡ xs ++ more → AllByRecursion Is more → x ≡ numbered text next more ++ y → (xs ≡ ys) × (x ≡ y)
      go [] next are each stand = (sym (are ∙ append-nil xs), stand)
      go (a ∷ more) next are each stand = absurd (apart next a (numbered text (next + 1) more ++ y) x each.0 c (sym (append_assoc (text next a) (numbered text (next + 1) more) y) ∙ sym stand))

  -- where items end and the next one isn't there, no further items are there either
  pub none_left : (n : ℕ) (read all : List A) (left rest : List ℕ) → AllByRecursion Is read → AllByRecursion Is all → Ends left → Ends rest → Close rest → numbered text n read ++ left ≡ numbered text n all ++ rest
      → (left ≡ rest → ⊥) → ((k : ℕ) (a : A) (x : List ℕ) → k ≡ n + length read → Is a → Ends x → left ≡ text k a ++ x → ⊥) → ⊥
  none_left n read all left rest p q g h c e last one = let l = left_of n read all left rest p q g h c e in go l.more l.next l.next_is l.each l.stand
    where
      go : (more : List A) (next : ℕ) → next ≡ n + length read → AllByRecursion Is more → left ≡ numbered text next more ++ rest → ⊥
      go [] next is each stand = last stand
      go (a ∷ more) next is each stand = one next a (numbered text (next + 1) more ++ rest) is each.0 (tail_ends (next + 1) more rest each.1 h) (stand ∙ append_assoc (text next a) (numbered text (next + 1) more) rest)
