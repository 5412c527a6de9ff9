-- Bodies: lines one after another, labels that stand once.
use Rattle.std.proofs.Common.{◌≡◌, ℕ, ◌+◌, ◌≤◌, ◌^◌, List, [], ◌∷◌, ◌++◌, drop, refl, sym, ◌∙◌, ap, subst, append_assoc, arith, Bool, true, false, not}
use Rattle.std.specs.Prelude.{codes, nat_eq, ◌||◌}
use Rattle.std.specs.List.{AllByRecursion, flat_map}
use Rattle.std.proofs.lemmas.Grind.{flat_map-append}
use Rattle.std.proofs.lemmas.List.Folds.{list_any-append}
use Rattle.std.proofs.lemmas.List.{append-nil}
use Rattle.std.proofs.lemmas.Bool.Decides.{nat_tests}
use Rattle.nu_text.proofs.Pieces.{before_is}
use Rattle.c_meaning.specs.declared.program.Line.{Line}
use Rattle.c_meaning.specs.declared.program.Line.TheVariants as line
use Rattle.c_meaning.specs.Text.{line_text, line_pieces, numbered}
use Rattle.c_meaning.specs.Written.{IsBodyLine, label_of, has, Once}
use Rattle.c_reader.specs.Statements.{IsNotFront, LineStands}
use Rattle.c_reader.specs.Functions.{BodyStands}
use Rattle.c_reader.specs.Labels.{holds, any_holds}
use Rattle.c_reader.specs.declared.labels.Labels.{Labels}
use Rattle.c_reader.proofs.Statements.{line_both, line_apart}
use Rattle.c_reader.proofs.Sequences.{Left, flat_is, flat_more, left_of, lists_both}

abbrev pub labels_of : List Line → List ℕ
labels_of lines = flat_map label_of lines

-- the brace behind the lines
abbrev Closes : List ℕ → Type 0
Closes y = (z : List ℕ) × (y ≡ codes "}\n" ++ z)

closes_apart : (l : Line) (x y : List ℕ) → Closes y → line_text l ++ x ≡ y → ⊥
closes_apart l x y c e = line_apart l x c.0 (e ∙ c.1)

flat_numbered : (lines : List Line) (rest : List ℕ) → flat_map line_text lines ++ rest ≡ numbered (λ _. line_text) 0 lines ++ rest
flat_numbered lines rest = ap (λ l. l ++ rest) (flat_is line_text 0 lines)

pub body_both : (registers : ℕ) (text : List ℕ) (lines other : List Line) (x y : List ℕ) → registers ≤ 2 ^ 64 → BodyStands registers text lines x → BodyStands registers text other y → (lines ≡ other) × (x ≡ y)
body_both registers text lines other x y small s t =
    let both = lists_both (λ _. line_text) (IsBodyLine registers) (λ _. Unit {0}) Closes (λ n a b z w p q _ _. line_both registers a b z w small p q) (λ n a z _. tt) (λ n a z w _. closes_apart a z w) 0 lines other (codes "}\n" ++ x) (codes "}\n" ++ y) s.each t.each tt tt
    (x, refl) (y, refl) (sym (flat_numbered lines (codes "}\n" ++ x)) ∙ sym s.spelled ∙ t.spelled ∙ flat_numbered other (codes "}\n" ++ y)) in
    (both.0, ap (drop 2) both.1)

-- what is left of a body behind the lines that were read
body_left : (registers : ℕ) (text left : List ℕ) (read lines : List Line) (rest : List ℕ) → registers ≤ 2 ^ 64 → text ≡ flat_map line_text read ++ left → AllByRecursion (IsBodyLine registers) read → BodyStands registers text lines rest
    → Left (λ _. line_text) (IsBodyLine registers) 0 read lines left (codes "}\n" ++ rest)
body_left registers text left read lines rest small e each s =
    left_of (λ _. line_text) (IsBodyLine registers) (λ _. Unit {0}) Closes (λ n a b z w p q _ _. line_both registers a b z w small p q) (λ n a z _. tt) (λ n a z w _. closes_apart a z w) 0 read lines left (codes "}\n" ++ rest) each s.each tt tt (rest, refl)
    (sym (flat_numbered read left) ∙ sym e ∙ s.spelled ∙ flat_numbered lines (codes "}\n" ++ rest))

-- the next line of a body
pub next_line : (registers : ℕ) (text left : List ℕ) (read lines : List Line) (rest : List ℕ) → registers ≤ 2 ^ 64 → text ≡ flat_map line_text read ++ left → AllByRecursion (IsBodyLine registers) read → IsNotFront (codes "}\n") left → BodyStands registers text lines rest
    → (l : Line) × (more : List Line) × (lines ≡ read ++ l ∷ more) × IsBodyLine registers l × (behind : List ℕ) × (left ≡ line_text l ++ behind)
next_line registers text left read lines rest small e each none s = let l = body_left registers text left read lines rest small e each s in go l.more l.all_are l.each l.stand
  where
    go : (more : List Line) → lines ≡ read ++ more → AllByRecursion (IsBodyLine registers) more → left ≡ numbered (λ _. line_text) (body_left registers text left read lines rest small e each s).next more ++ (codes "}\n" ++ rest)
        → (l : Line) × (more : List Line) × (lines ≡ read ++ l ∷ more) × IsBodyLine registers l × (behind : List ℕ) × (left ≡ line_text l ++ behind)
    go [] are all stand = absurd (none rest stand)
    go (a ∷ more) are all stand = (a, more, are, all.0, numbered (λ _. line_text) ((body_left registers text left read lines rest small e each s).next + 1) more ++ (codes "}\n" ++ rest), stand ∙ append_assoc (line_text a) _ (codes "}\n" ++ rest))

pub no_line : (registers : ℕ) (text left : List ℕ) (read : List Line) → registers ≤ 2 ^ 64 → text ≡ flat_map line_text read ++ left → AllByRecursion (IsBodyLine registers) read → IsNotFront (codes "}\n") left → ((l : Line) (rest : List ℕ) → LineStands registers left l rest → ⊥)
    → (lines : List Line) (rest : List ℕ) → BodyStands registers text lines rest → ⊥
no_line registers text left read small e each none one lines rest s =
    let next = next_line registers text left read lines rest small e each none s in
    one next.0 next.4 (record { is = next.3; spelled = next.5 ∙ before_is (line_pieces next.0) next.4 })

-- labels that stand twice, and labels that stand once
or_false : (a b : Bool) → (a || b) ≡ false → (a ≡ false) × (b ≡ false)
or_false true b e = absurd (grind (arith, e))
or_false false b e = (refl, e)

or_of : (a b : Bool) → a ≡ false → b ≡ false → (a || b) ≡ false
or_of a b e f = rw (e, f) refl

other_way : (s l : ℕ) → nat_eq s l ≡ false → nat_eq l s ≡ false
other_way s l e = grind (arith, nat_tests, e)

pub has_both : (xs ys : List ℕ) (n : ℕ) → has (xs ++ ys) n ≡ (has xs n || has ys n)
has_both xs ys n = list_any-append (λ other. nat_eq other n) xs ys

twice : (seen more : List ℕ) (l : ℕ) → has seen l ≡ true → Once (seen ++ l ∷ more) → ⊥
twice [] more l h once = grind (arith, h)
twice (s ∷ seen) more l h once = go (nat_eq s l) refl h (λ k. twice seen more l k once.1)
  where
    go : (q : Bool) → nat_eq s l ≡ q → (q || has seen l) ≡ true → (has seen l ≡ true → ⊥) → ⊥
    go true e h more_seen =
        let parts = or_false (has seen s) (has (l ∷ more) s) (sym (has_both seen (l ∷ more) s) ∙ once.0) in
        let first = (or_false (nat_eq l s) (has more s) parts.1).0 in
        let same : s ≡ l = grind (arith, nat_tests, e) in
        grind (arith, nat_tests, first, same)
    go false e h more_seen = more_seen h

once_more : (seen : List ℕ) (l : ℕ) → has seen l ≡ false → Once seen → Once (seen ++ l ∷ [])
once_more [] l h once = (refl, tt)
once_more (s ∷ seen) l h once =
    let parts = or_false (nat_eq s l) (has seen l) h in
    let one = other_way s l parts.0 in
    (has_both seen (l ∷ []) s ∙ or_of (has seen s) (has (l ∷ []) s) once.0 (or_of (nat_eq l s) false one refl), once_more seen l parts.1 once.1)

-- what is known of the labels that were read
abbrev pub Knows : Labels → List Line → Type 0
Knows labels lines = (label : ℕ) → holds labels label ≡ has (labels_of lines) label

labels_more : (read : List Line) (l : Line) (more : List Line) → labels_of (read ++ l ∷ more) ≡ labels_of read ++ (label_of l ++ labels_of more)
labels_more read l more = flat_map-append label_of read (l ∷ more)

pub not_true : (b c : Bool) → c ≡ not b → c ≡ false → b ≡ true
not_true true c e f = refl
not_true false c e f = grind (arith, e, f)

pub not_false : (b c : Bool) → c ≡ not b → c ≡ true → b ≡ false
not_false true c e f = grind (arith, e, f)
not_false false c e f = refl

-- a label that stood before
pub label_twice : (registers : ℕ) (text left behind : List ℕ) (read : List Line) (one : Line) (labels : Labels) → registers ≤ 2 ^ 64 → text ≡ flat_map line_text read ++ left → AllByRecursion (IsBodyLine registers) read → IsNotFront (codes "}\n") left → LineStands registers left one behind
    → Knows labels read → any_holds labels one ≡ true → (lines : List Line) (rest : List ℕ) → BodyStands registers text lines rest → ⊥
label_twice registers text left behind read one labels small e each none stands knows held lines rest s =
    let next = next_line registers text left read lines rest small e each none s in
    let same = (line_both registers one next.0 behind next.4 small stands.is next.3 (before_is (line_pieces one) behind ∙ sym stands.spelled ∙ next.5)).0 in
    go one held (subst Once (ap labels_of (next.2 ∙ ap (λ l. read ++ l ∷ next.1) (sym same)) ∙ labels_more read one next.1) s.once)
  where
    go : (one : Line) → any_holds labels one ≡ true → Once (labels_of read ++ (label_of one ++ labels_of (next_line registers text left read lines rest small e each none s).1)) → ⊥
    go (line.Do st) h once = grind (arith, h)
    go (line.Label l) h once = twice (labels_of read) (labels_of (next_line registers text left read lines rest small e each none s).1) l (sym (knows l) ∙ h) once

-- one line more
pub once_line : (read : List Line) (one : Line) (labels : Labels) → Once (labels_of read) → Knows labels read → any_holds labels one ≡ false → Once (labels_of (read ++ one ∷ []))
once_line read one labels once knows held = subst Once (sym (labels_more read one [])) (go one held)
  where
    go : (one : Line) → any_holds labels one ≡ false → Once (labels_of read ++ (label_of one ++ []))
    go (line.Do st) h = subst Once (sym (append-nil (labels_of read))) once
    go (line.Label l) h = once_more (labels_of read) l (sym (knows l) ∙ h) once

or_swap : (a b : Bool) → (a || b) ≡ (b || a)
or_swap true true = refl
or_swap true false = refl
or_swap false true = refl
or_swap false false = refl

pub knows_line : (read : List Line) (one : Line) (old new : Labels) → Knows old read → ((label : ℕ) → holds new label ≡ (has (label_of one) label || holds old label)) → Knows new (read ++ one ∷ [])
knows_line read one old new knows adds label =
    adds label ∙ ap (λ b. has (label_of one) label || b) (knows label) ∙ or_swap (has (label_of one) label) (has (labels_of read) label)
    ∙ ap (λ l. has (labels_of read) label || has l label) (sym (append-nil (label_of one))) ∙ sym (has_both (labels_of read) (label_of one ++ []) label) ∙ ap (λ l. has l label) (sym (labels_more read one []))

pub next_spelled : (registers : ℕ) (text left behind : List ℕ) (read new : List Line) (one : Line) → text ≡ flat_map line_text read ++ left → LineStands registers left one behind → new ≡ read ++ one ∷ [] → text ≡ flat_map line_text new ++ behind
next_spelled registers text left behind read new one e s more =
    e ∙ ap (λ l. flat_map line_text read ++ l) (s.spelled ∙ sym (before_is (line_pieces one) behind)) ∙ sym (flat_more line_text read one behind) ∙ ap (λ l. flat_map line_text l ++ behind) (sym more)
