-- Walks of constructs by those of their parts.
use Rattle.std.proofs.Common.{◌≡◌, ℕ, Bool, true, false, cond, List, [], ◌∷◌, ◌++◌, map, refl, sym, ap, ◌∙◌}
use Rattle.std.proofs.lemmas.List.{append_assoc, append-nil}
use Rattle.node_tree.specs.Blocks as tree
use Rattle.py_meaning.specs.Syntax as syntax
use Rattle.py_meaning.specs.Resolved as meaning
use Rattle.py_meaning.specs.Resolved.{Making}
use Rattle.carries_base.specs.Carries.{Carrier}
use Rattle.carried_codes.specs.Parts.{Valued, Several, Made}
use Rattle.walk_laws.specs.States.{Coded, State, Walked, Walking, walked, coded, and_then, at}
use Rattle.walk_laws.specs.Composed.{Out, through, As}

pub map_joined : {X Y : Type 0} (f : X → Y) (a b : List X) → map f a ++ map f b ≡ map f (a ++ b)
map_joined f [] b = refl
map_joined f (x ∷ a) b = ap (λ l. f x ∷ l) (map_joined f a b)

pub codes_joined : (cs : List Coded) (a b : List syntax.Code) → (cs ++ map coded a) ++ map coded b ≡ cs ++ map coded (a ++ b)
codes_joined cs a b = append_assoc cs (map coded a) (map coded b) ∙ ap (λ l. cs ++ l) (map_joined coded a b)

abbrev pub out : {A : Type 0} → A → ℕ → Out A
out x n = record { is = x; next = n }

-- what the nodes have, with the next temporary
abbrev pub value_out : Valued → Out Carrier
value_out v = record { is = v.part; next = v.next }

abbrev pub block_out : Made → Out tree.Block
block_out m = record { is = m.block; next = m.next }

abbrev pub parts_out : {A : Type 0} → Several A → Out (List A)
parts_out ps = record { is = ps.parts; next = ps.next }

-- the construct itself draws temporaries
abbrev pub ends : {B : Type 0} → (ℕ → Out B) → Walking B
ends h s = let o = h s.temp in walked o.is (at o.next s)

-- what is made, as it is translated from a temporary further in front
abbrev pub resumed : {A B : Type 0} → (A → Out B) → Making A → State → Walked B
resumed g m s =
    let a = m s.scope in
    let o = g a.is in
    walked o.is (record { temp = o.next; scope = a.next; codes = s.codes ++ map coded a.codes })

-- the state behind a part
abbrev pub behind : {A B : Type 0} → (ℕ → A → Out B) → Making A → State → State
behind f m s = (through f m s).state

abbrev pub first : {A B : Type 0} → (ℕ → A → Out B) → Making A → State → B
first f m s = (through f m s).is

pub last_at : {A B P Q : Type 0} {fa : ℕ → A → Out P} {m : Making A} {w : Walking P} (s : State) (g : B → Out Q) (k : A → B) (h : P → ℕ → Out Q)
    → g (k (m s.scope).is) ≡ h (first fa m s) (behind fa m s).temp → As fa m w → and_then w (λ p. ends (h p)) s ≡ resumed g (meaning.made k m) s
last_at {fa = fa} {m = m} {w = w} s g k h e a =
    ap (λ r. ends (h r.is) r.state) (a.same s) ∙ ap (λ o. walked o.is (at o.next (behind fa m s))) (sym e)

pub next_at : {A B P Q : Type 0} {fa : ℕ → A → Out P} {m : Making A} {w : Walking P} (s : State) (g : B → Out Q) (k : A → Making B) (h : P → Walking Q)
    → As fa m w → h (first fa m s) (behind fa m s) ≡ resumed g (k (m s.scope).is) (behind fa m s) → and_then w h s ≡ resumed g (meaning.and_then m k) s
next_at {fa = fa} {m = m} {w = w} s g k h a e =
    let b = k (m s.scope).is (m s.scope).next in
    let o = g b.is in
    ap (λ r. h r.is r.state) (a.same s)
    ∙ e
    ∙ ap (λ cs. walked o.is (record { temp = o.next; scope = b.next; codes = cs })) (codes_joined s.codes (m s.scope).codes b.codes)

pub nothing : {A B : Type 0} {f : ℕ → A → Out B} (x : A) (y : B) → ((t : ℕ) → f t x ≡ out y t) → As f (meaning.pure x) (walked y)
nothing {f = f} x y e = record {
  same = λ s.
      ap (λ cs. walked y (record { temp = s.temp; scope = s.scope; codes = cs })) (sym (append-nil s.codes))
      ∙ ap (λ o. walked o.is (record { temp = o.next; scope = s.scope; codes = s.codes ++ [] })) (sym (e s.temp));
}

-- without parts, with temporaries of its own
pub alone : {A B : Type 0} {f : ℕ → A → Out B} (x : A) → As f (meaning.pure x) (ends (λ t. f t x))
alone {f = f} x = record {
  same = λ s. let o = f s.temp x in
      ap (λ cs. walked o.is (record { temp = o.next; scope = s.scope; codes = cs })) (sym (append-nil s.codes));
}

pub one : {A B P Q : Type 0} {fa : ℕ → A → Out P} {f : ℕ → B → Out Q} {m : Making A} {w : Walking P} (k : A → B) (h : P → ℕ → Out Q)
    → ((t : ℕ) (x : A) → f t (k x) ≡ h (fa t x).is (fa t x).next) → As fa m w → As f (meaning.made k m) (and_then w (λ p. ends (h p)))
one {f = f} {m = m} k h e a = record { same = λ s. last_at s (f s.temp) k h (e s.temp (m s.scope).is) a }

pub two : {A B C P Q R : Type 0} {fa : ℕ → A → Out P} {fb : ℕ → B → Out Q} {f : ℕ → C → Out R} {ma : Making A} {mb : Making B} {wa : Walking P} {wb : Walking Q}
    (k : A → B → C) (h : P → Q → ℕ → Out R)
    → ((t : ℕ) (x : A) (y : B) → f t (k x y) ≡ (let p = fa t x in let q = fb p.next y in h p.is q.is q.next))
    → As fa ma wa → As fb mb wb → As f (meaning.and_then ma (λ x. meaning.made (k x) mb)) (and_then wa (λ p. and_then wb (λ q. ends (h p q))))
two {fa = fa} {f = f} {ma = ma} {mb = mb} {wb = wb} k h e a b = record {
  same = λ s.
      let x = (ma s.scope).is in
      let u = behind fa ma s in
      next_at s (f s.temp) (λ x. meaning.made (k x) mb) (λ p. and_then wb (λ q. ends (h p q))) a
      (last_at u (f s.temp) (k x) (h (first fa ma s)) (e s.temp x (mb u.scope).is) b);
}

pub three : {A B C D P Q R S : Type 0} {fa : ℕ → A → Out P} {fb : ℕ → B → Out Q} {fc : ℕ → C → Out R} {f : ℕ → D → Out S}
    {ma : Making A} {mb : Making B} {mc : Making C} {wa : Walking P} {wb : Walking Q} {wc : Walking R}
    (k : A → B → C → D) (h : P → Q → R → ℕ → Out S)
    → ((t : ℕ) (x : A) (y : B) (z : C) → f t (k x y z) ≡ (let p = fa t x in let q = fb p.next y in let r = fc q.next z in h p.is q.is r.is r.next))
    → As fa ma wa → As fb mb wb → As fc mc wc
    → As f (meaning.and_then ma (λ x. meaning.and_then mb (λ y. meaning.made (k x y) mc))) (and_then wa (λ p. and_then wb (λ q. and_then wc (λ r. ends (h p q r)))))
three {fa = fa} {fb = fb} {f = f} {ma = ma} {mb = mb} {mc = mc} {wb = wb} {wc = wc} k h e a b c = record {
  same = λ s.
      let x = (ma s.scope).is in
      let u = behind fa ma s in
      let y = (mb u.scope).is in
      let v = behind fb mb u in
      let p = first fa ma s in
      let q = first fb mb u in
      next_at s (f s.temp) (λ x. meaning.and_then mb (λ y. meaning.made (k x y) mc)) (λ p. and_then wb (λ q. and_then wc (λ r. ends (h p q r)))) a
      (next_at u (f s.temp) (λ y. meaning.made (k x y) mc) (λ q. and_then wc (λ r. ends (h p q r))) b
      (last_at v (f s.temp) (k x y) (h p q) (e s.temp x y (mc v.scope).is) c));
}

pub four : {A B C D E P Q R S T : Type 0} {fa : ℕ → A → Out P} {fb : ℕ → B → Out Q} {fc : ℕ → C → Out R} {fd : ℕ → D → Out S} {f : ℕ → E → Out T}
    {ma : Making A} {mb : Making B} {mc : Making C} {md : Making D} {wa : Walking P} {wb : Walking Q} {wc : Walking R} {wd : Walking S}
    (k : A → B → C → D → E) (h : P → Q → R → S → ℕ → Out T)
    → ((t : ℕ) (x : A) (y : B) (z : C) (w : D) → f t (k x y z w) ≡ (let p = fa t x in let q = fb p.next y in let r = fc q.next z in let o = fd r.next w in h p.is q.is r.is o.is o.next))
    → As fa ma wa → As fb mb wb → As fc mc wc → As fd md wd
    → As f (meaning.and_then ma (λ x. meaning.and_then mb (λ y. meaning.and_then mc (λ z. meaning.made (k x y z) md))))
    (and_then wa (λ p. and_then wb (λ q. and_then wc (λ r. and_then wd (λ o. ends (h p q r o))))))
four {fa = fa} {fb = fb} {fc = fc} {f = f} {ma = ma} {mb = mb} {mc = mc} {md = md} {wb = wb} {wc = wc} {wd = wd} k h e a b c d = record {
  same = λ s.
      let x = (ma s.scope).is in
      let u = behind fa ma s in
      let y = (mb u.scope).is in
      let v = behind fb mb u in
      let z = (mc v.scope).is in
      let w = behind fc mc v in
      let p = first fa ma s in
      let q = first fb mb u in
      let r = first fc mc v in
      next_at s (f s.temp) (λ x. meaning.and_then mb (λ y. meaning.and_then mc (λ z. meaning.made (k x y z) md))) (λ p. and_then wb (λ q. and_then wc (λ r. and_then wd (λ o. ends (h p q r o))))) a
      (next_at u (f s.temp) (λ y. meaning.and_then mc (λ z. meaning.made (k x y z) md)) (λ q. and_then wc (λ r. and_then wd (λ o. ends (h p q r o)))) b
      (next_at v (f s.temp) (λ z. meaning.made (k x y z) md) (λ r. and_then wd (λ o. ends (h p q r o))) c
      (last_at w (f s.temp) (k x y z) (h p q r) (e s.temp x y z (md w.scope).is) d)));
}

pub either : {A P : Type 0} {f : ℕ → A → Out P} {m n : Making A} {w v : Walking P} (b : Bool) → As f m w → As f n v → As f (cond b m n) (cond b w v)
either true a b = a
either false a b = b

-- the same is made, with its codes joined otherwise
pub as_made : {A B : Type 0} {f : ℕ → A → Out B} (m n : Making A) {w : Walking B} → ((i : ℕ) → m i ≡ n i) → As f m w → As f n w
as_made {f = f} m n e a = record { same = λ s. a.same s ∙ ap (λ r. let o = f s.temp r.is in walked o.is (record { temp = o.next; scope = r.next; codes = s.codes ++ map coded r.codes })) (e s.scope) }

abbrev with_codes : {A : Type 0} → meaning.Made A → List syntax.Code → meaning.Made A
with_codes r cs = record { is = r.is; next = r.next; codes = cs }

pub joined_on : {A B C : Type 0} (m : Making A) (k : A → Making B) (l : B → Making C) (i : ℕ) → meaning.and_then (meaning.and_then m k) l i ≡ meaning.and_then m (λ x. meaning.and_then (k x) l) i
joined_on m k l i =
    let a = m i in let b = k a.is a.next in let c = l b.is b.next in
    ap (with_codes c) (append_assoc a.codes b.codes c.codes)

pub joined_pure : {A B : Type 0} (m : Making A) (k : A → B) (i : ℕ) → meaning.and_then m (λ x. meaning.pure (k x)) i ≡ meaning.made k m i
joined_pure m k i = let a = m i in ap (with_codes (record { is = k a.is; next = a.next; codes = a.codes })) (append-nil a.codes)
