-- Parameters: no others stand where some do.
use Rattle.std.proofs.Common.{◌≡◌, ◌≢◌, ℕ, suc, ◌-◌, ◌<◌, List, [], ◌∷◌, ◌++◌, length, get_or, take, drop, length-drop, refl, sym, ◌∙◌, ap, subst, arith, Bool, true, false, Option, Some, None, Bor}
use Rattle.std.specs.Prelude.{codes, nat_eq, nat_le, ◌&&◌, slice_get, IsUtf8, option_map}
use Rattle.std.specs.List.{AllByRecursion, flat_map}
use Rattle.std.proofs.lemmas.List.{append-nil, take_all}
use Rattle.std.proofs.lemmas.Bool.Decides.{nat_tests}
use Rattle.nu_text.proofs.Strings.{string_both, utf8_bytes}
use Rattle.nu_value.specs.declared.header.ParamKind.{ParamKind}
use Rattle.nu_value.specs.declared.header.ParamKind.TheVariants as kind
use Rattle.c_meaning.specs.Text.{letter, param_text, spaced_text, params_text, numbered}
use Rattle.c_meaning.specs.Written.{IsParam, has, in_order}
use Rattle.c_reader.specs.Pieces.{AreBytes, QuotedStands}
use Rattle.c_reader.specs.Params.{left_text, EndsName, ParamStands, AreSpelled, ParamsStand}
use Rattle.c_reader.proofs.Sequences.{flat_is, none_left, lists_both}

-- two names without spaces
no_space_here : (b : ℕ) (t : List ℕ) → has (b ∷ t) 32 ≡ false → b ≡ 32 → ⊥
no_space_here b t h e = grind (arith, nat_tests, h, e)

no_space_left : (b : ℕ) (t : List ℕ) → has (b ∷ t) 32 ≡ false → has t 32 ≡ false
no_space_left b t h = go (nat_eq b 32) h
  where
    go : (q : Bool) → Rattle.std.specs.Prelude.◌||◌ q (has t 32) ≡ false → has t 32 ≡ false
    go true h = grind (arith, h)
    go false h = h

first_space : (x : List ℕ) (b : ℕ) (more : List ℕ) → EndsName x → x ≡ b ∷ more → b ≡ 32
first_space [] b more g e = let bad : 0 ≡ suc (length more) = ap length e in absurd (omega (arith, bad))
first_space (c ∷ x) b more g e = sym (ap (λ l. get_or l 0 0) e) ∙ g

pub name_both : (s t x y : List ℕ) → has s 32 ≡ false → has t 32 ≡ false → EndsName x → EndsName y → s ++ x ≡ t ++ y → (s ≡ t) × (x ≡ y)
name_both [] [] x y p q g h e = (refl, e)
name_both [] (b ∷ t) x y p q g h e = absurd (no_space_here b t q (first_space x b (t ++ y) g e))
name_both (a ∷ s) [] x y p q g h e = absurd (no_space_here a s p (first_space y a (s ++ x) h (sym e)))
name_both (a ∷ s) (b ∷ t) x y p q g h e =
    let both = name_both s t x y (no_space_left a s p) (no_space_left b t q) g h (ap (drop 1) e) in
    let first : a ≡ b = ap (λ l. get_or l 0 0) e in
    (ap (λ c. c ∷ s) first ∙ ap (λ l. b ∷ l) both.0, both.1)

letter_both : (k l : ParamKind) → letter k ≡ letter l → k ≡ l
letter_both kind.Only kind.Only e = refl
letter_both kind.Plain kind.Plain e = refl
letter_both kind.Star kind.Star e = refl
letter_both kind.Key kind.Key e = refl
letter_both kind.Double kind.Double e = refl
letter_both k l e = absurd (omega (arith, e))

pub param_both : (text : List ℕ) (p q : ParamKind × List ℕ) (x y : List ℕ) → ParamStands text p x → ParamStands text q y → (p ≡ q) × (x ≡ y)
param_both text p q x y s t =
    let e = sym s.spelled ∙ t.spelled in
    let kinds = letter_both p.0 q.0 (ap (λ l. get_or l 0 0) e) in
    let names = name_both p.1 q.1 x y s.is.no_space t.is.no_space s.ends t.ends (ap (drop 1) e) in
    (ap (λ k. (k, p.1)) kinds ∙ ap (λ n. (q.0, n)) names.0, names.1)

pub left_ends : (next : Option (Bor (List ℕ))) → EndsName (left_text next)
left_ends None = tt
left_ends (Some behind) = refl

-- a name that is no text
pub no_name : (text bytes : List ℕ) (next : Option (Bor (List ℕ))) → has bytes 32 ≡ false → take (length text - 1) (drop 1 text) ≡ bytes ++ left_text next → (IsUtf8 bytes → ⊥) → (p : ParamKind × List ℕ) (rest : List ℕ) → ParamStands text p rest → ⊥
no_name text bytes next none split bad p rest s =
    let short = length-drop 1 text in
    let all : take (length text - 1) (drop 1 text) ≡ drop 1 text = take_all (length text - 1) (drop 1 text) (omega (arith, short)) in
    bad (subst IsUtf8 (sym (name_both bytes p.1 (left_text next) rest none s.is.no_space (left_ends next) s.ends (sym split ∙ all ∙ ap (drop 1) s.spelled)).0) s.is.utf8)

-- lists of parameters
abbrev Nil : List ℕ → Type 0
Nil y = y ≡ []

spaced_apart : (p : ParamKind × List ℕ) (x y : List ℕ) → y ≡ [] → spaced_text p ++ x ≡ y → ⊥
spaced_apart p x y none e = let bad : suc (length (param_text p ++ x)) ≡ 0 = ap length (e ∙ none) in omega (arith, bad)

spaced_both : (p q : ParamKind × List ℕ) (x y : List ℕ) → IsParam p → IsParam q → EndsName x → EndsName y → spaced_text p ++ x ≡ spaced_text q ++ y → (p ≡ q) × (x ≡ y)
spaced_both p q x y f g h i e = param_both (param_text p ++ x) p q x y (record { is = f; spelled = refl; ends = h }) (record { is = g; spelled = ap (drop 1) e; ends = i })

flat_nil : (s : List (ParamKind × List ℕ)) → flat_map spaced_text s ≡ numbered (λ _. spaced_text) 0 s ++ []
flat_nil s = flat_is spaced_text 0 s ∙ sym (append-nil (numbered (λ _. spaced_text) 0 s))

pub spelled_both : (text : List ℕ) (s t : List (ParamKind × List ℕ)) → AreSpelled text s → AreSpelled text t → s ≡ t
spelled_both text s t a b =
    (lists_both (λ _. spaced_text) IsParam EndsName Nil (λ n. spaced_both) (λ n p x _. refl) (λ n p x y _. spaced_apart p x y) 0 s t [] [] a.each b.each tt tt refl refl (sym (flat_nil s) ∙ sym a.spelled ∙ b.spelled ∙ flat_nil t)).0

pub no_more_params : (text item : List ℕ) (read : List (ParamKind × List ℕ)) → 32 ∷ text ≡ flat_map spaced_text read ++ (32 ∷ item) → AllByRecursion IsParam read → ((p : ParamKind × List ℕ) (rest : List ℕ) → ParamStands item p rest → ⊥) → (shape : List (ParamKind × List ℕ)) → AreSpelled text shape → ⊥
no_more_params text item read e each none shape s =
    none_left (λ _. spaced_text) IsParam EndsName Nil (λ n. spaced_both) (λ n p x _. refl) (λ n p x y _. spaced_apart p x y) 0 read shape (32 ∷ item) [] each s.each refl tt refl
    (ap (λ l. l ++ (32 ∷ item)) (sym (flat_is spaced_text 0 read)) ∙ sym e ∙ s.spelled ∙ flat_nil shape)
    (λ last. let bad : suc (length item) ≡ 0 = ap length last in omega (arith, bad))
    (λ k p x _ is ends stand. none p x (record { is = is; spelled = ap (drop 1) stand; ends = ends }))

-- the bytes of parameters are bytes
append_bytes : (xs ys : List ℕ) → AreBytes xs → AreBytes ys → AreBytes (xs ++ ys)
append_bytes [] ys p q = q
append_bytes (x ∷ xs) ys p q = (p.0, append_bytes xs ys p.1 q)

letter_byte : (k : ParamKind) → letter k < 256
letter_byte kind.Only = omega arith
letter_byte kind.Plain = omega arith
letter_byte kind.Star = omega arith
letter_byte kind.Key = omega arith
letter_byte kind.Double = omega arith

param_bytes : (p : ParamKind × List ℕ) → IsParam p → AreBytes (param_text p)
param_bytes p is = (letter_byte p.0, utf8_bytes p.1 is.utf8)

spaced_bytes : (shape : List (ParamKind × List ℕ)) → AllByRecursion IsParam shape → AreBytes (flat_map spaced_text shape)
spaced_bytes [] each = tt
spaced_bytes (p ∷ shape) each = (omega arith, append_bytes (param_text p) (flat_map spaced_text shape) (param_bytes p each.0) (spaced_bytes shape each.1))

params_bytes : (shape : List (ParamKind × List ℕ)) → AllByRecursion IsParam shape → AreBytes (params_text shape)
params_bytes [] each = tt
params_bytes (p ∷ shape) each = append_bytes (param_text p) (flat_map spaced_text shape) (param_bytes p each.0) (spaced_bytes shape each.1)

pub params_quoted : (text : List ℕ) (shape : List (ParamKind × List ℕ)) (rest : List ℕ) → ParamsStand text shape rest → QuotedStands text (params_text shape) rest
params_quoted text shape rest s = record { bytes_fit = params_bytes shape s.each; spelled = s.spelled }

pub quoted_params : (text bytes behind : List ℕ) (shape : List (ParamKind × List ℕ)) (rest : List ℕ) → QuotedStands text bytes behind → ParamsStand text shape rest → (bytes ≡ params_text shape) × (behind ≡ rest)
quoted_params text bytes behind shape rest q s = string_both bytes (params_text shape) behind rest (sym q.spelled ∙ s.spelled)

-- parameters that aren't none
pub spelled_of : (bytes : List ℕ) (shape : List (ParamKind × List ℕ)) → bytes ≢ [] → AllByRecursion IsParam shape → bytes ≡ params_text shape → AreSpelled bytes shape
spelled_of bytes [] some each e = absurd (some e)
spelled_of bytes (p ∷ shape) some each e = record { each = each; spelled = ap (λ l. 32 ∷ l) e }

-- bytes that spell no parameters, and parameters that aren't in their order
not_empty : (bytes : List ℕ) → 0 < length bytes → bytes ≢ []
not_empty bytes long e = let bad : length bytes ≡ 0 = ap length e in omega (arith, long, bad)

spelled_given : (text bytes behind given : List ℕ) → QuotedStands text bytes behind → 0 < length bytes → given ≡ bytes → (shape : List (ParamKind × List ℕ)) (rest : List ℕ) → ParamsStand text shape rest → AreSpelled given shape
spelled_given text bytes behind given q long same shape rest s =
    subst (λ b. AreSpelled b shape) (sym same) (spelled_of bytes shape (not_empty bytes long) s.each (quoted_params text bytes behind shape rest q s).0)

pub no_params : (text bytes behind given : List ℕ) → QuotedStands text bytes behind → 0 < length bytes → given ≡ bytes → ((shape : List (ParamKind × List ℕ)) → AreSpelled given shape → ⊥) → (shape : List (ParamKind × List ℕ)) (rest : List ℕ) → ParamsStand text shape rest → ⊥
no_params text bytes behind given q long same none shape rest s = none shape (spelled_given text bytes behind given q long same shape rest s)

pub no_order : (text bytes behind given : List ℕ) (read : List (ParamKind × List ℕ)) → QuotedStands text bytes behind → 0 < length bytes → given ≡ bytes → AreSpelled given read → in_order 0 read ≡ false → (shape : List (ParamKind × List ℕ)) (rest : List ℕ) → ParamsStand text shape rest → ⊥
no_order text bytes behind given read q long same spelled bad shape rest s =
    let one = spelled_both given read shape spelled (spelled_given text bytes behind given q long same shape rest s) in
    let good : in_order 0 read ≡ true = ap (in_order 0) one ∙ s.order in
    grind (arith, good, bad)

pub params_both : (text : List ℕ) (s t : List (ParamKind × List ℕ)) (x y : List ℕ) → ParamsStand text s x → ParamsStand text t y → (s ≡ t) × (x ≡ y)
params_both text s t x y a b =
    let both = string_both (params_text s) (params_text t) x y (sym a.spelled ∙ b.spelled) in
    (go s t a.each b.each both.0, both.1)
  where
    go : (s t : List (ParamKind × List ℕ)) → AllByRecursion IsParam s → AllByRecursion IsParam t → params_text s ≡ params_text t → s ≡ t
    go [] [] p q e = refl
    go [] (b ∷ t) p q e = let bad : 0 ≡ suc (length (b.1 ++ flat_map spaced_text t)) = ap length e in absurd (omega (arith, bad))
    go (a ∷ s) [] p q e = let bad : suc (length (a.1 ++ flat_map spaced_text s)) ≡ 0 = ap length e in absurd (omega (arith, bad))
    go (a ∷ s) (b ∷ t) p q e = spelled_both (params_text (a ∷ s)) (a ∷ s) (b ∷ t) (record { each = p; spelled = refl }) (record { each = q; spelled = ap (λ l. 32 ∷ l) e })
