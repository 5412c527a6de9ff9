-- Assignments, from what their parts become.
use Rattle.std.proofs.Common.{◌≡◌, ℕ, ◌≤◌, List, [], ◌∷◌, ◌++◌, Option, Ok, refl, sym, ap, ◌∙◌, subst, arith, append_assoc, append-nil}
use Rattle.nu_value.specs.declared.value.Value.TheVariants as value
use Rattle.py_ast.specs.declared.expr.Binary.{Binary}
use Rattle.py_ast.specs.declared.expr.Expr.{Expr}
use Rattle.op_forms.specs.declared.op.Op.{Op}
use Rattle.node_tree.specs.declared.node.Node.{Node}
use Rattle.code_forms.specs.declared.operand.Operand.{Operand}
use Rattle.node_tree.specs.Tree.{block}
use Rattle.node_tree.proofs.Direct.{block_append}
use Rattle.py_meaning.specs.Syntax as syntax
use Rattle.py_meaning.specs.Resolved as meaning
use Rattle.carries_base.specs.Frames.{Homes, behind}
use Rattle.carries_base.specs.Carries.{CarriesExpression, CarriesTarget, CarriesStatement}
use Rattle.reform_base.specs.declared.Part.{Part}
use Rattle.reform_unpack.specs.declared.place.Place.{Place}
use Rattle.reform_unpack.specs.Places.{target_of}
use Rattle.reform_unpack.specs.Laws.{CarriesTargets}
use Rattle.carries_base.proofs.Sequence.{gives_carried}
use Rattle.reform_unpack.proofs.Assignments.{target_carried, assignment_carried}
use Rattle.reform_all.specs.Built as built
use Rattle.reform_all.specs.Quiet.{Quiet}
use Rattle.reform_all.proofs.Quiets.{quiet_append, quiet_nil}
use Rattle.reform_all.specs.Expressions.{IsExpressed}
use Rattle.reform_all.specs.Assignments.{IsPlaced, AreStored, Assigned, Augmented, no_name}
use Rattle.reform_all.proofs.Making.{two_is}

-- no target
pub none_stored : (o : Operand) (old : ℕ) → AreStored [] o old old []
none_stored o old = record {
  built = refl;
  grows = omega arith;
  means = syntax.NoTarget;
  is = λ c m next. refl;
  carries = λ h low st le. record { starts = st; grows = le; carries = λ z fs v off knows. gives_carried z h 0 (λ w. fs) fs value.None (λ c g x. x) };
  quiet = quiet_nil;
}

-- one more target in front
pub more_stored : (t : Expr) (ts : List Expr) (o : Operand) (place : Place) (old mid new : ℕ) (a b : List Node) → IsPlaced t place → old ≤ mid → ((h : Homes) (low : ℕ) → behind h ≤ low → low ≤ old → CarriesTarget h low mid o (target_of place) (block a)) → Quiet a → AreStored ts o mid new b → AreStored (t ∷ ts) o old new (a ++ b)
more_stored t ts o place old mid new a b p le first q rest =
    let l : mid ≤ new = rest.grows in
    record {
      built = ap (λ u. built.before u (no_name ts)) p.built ∙ rest.built;
      grows = omega arith;
      means = syntax.AlsoTo (target_of place) rest.means;
      is = λ c m. two_is (λ a b. syntax.AlsoTo a b) _ _ _ _ (p.is c m) (rest.is c m);
      carries = λ h low st below.
          subst (λ d. CarriesTargets h low new o (syntax.AlsoTo (target_of place) rest.means) d) (sym (block_append a b))
          (target_carried h low mid new o (target_of place) rest.means (block a) (block b) (first h low st below) (rest.carries h mid (omega arith) (omega arith)));
      quiet = quiet_append a b q rest.quiet;
    }

-- the targets so far, and those that are left
pub record Stores (ts rest : List Expr) (o : Operand) (old now : ℕ) (nodes : List Node) : Type 0 where
  pub built : no_name ts ≡ no_name rest
  pub goes_on : (new : ℕ) (more : List Node) → AreStored rest o now new more → AreStored ts o old new (nodes ++ more)

pub stores_begin : (ts : List Expr) (o : Operand) (old : ℕ) → Stores ts ts o old old []
stores_begin ts o old = record { built = refl; goes_on = λ new more x. x }

pub stores_next : (ts : List Expr) (t : Expr) (rest : List Expr) (o : Operand) (place : Place) (old now mid : ℕ) (nodes a : List Node) → Stores ts (t ∷ rest) o old now nodes → IsPlaced t place → now ≤ mid → ((h : Homes) (low : ℕ) → behind h ≤ low → low ≤ now → CarriesTarget h low mid o (target_of place) (block a)) → Quiet a → Stores ts rest o old mid (nodes ++ a)
stores_next ts t rest o place old now mid nodes a s p le first q = record {
  built = s.built ∙ ap (λ u. built.before u (no_name rest)) p.built;
  goes_on = λ new more x. subst (λ l. AreStored ts o old new l) (sym (append_assoc nodes a more)) (s.goes_on new (a ++ more) (more_stored t rest o place now mid new a more p le first q x));
}

pub stores_end : (ts : List Expr) (o : Operand) (old now : ℕ) (nodes : List Node) → Stores ts [] o old now nodes → AreStored ts o old now nodes
stores_end ts o old now nodes s = subst (λ l. AreStored ts o old now l) (append-nil nodes) (s.goes_on now [] (none_stored o now))

-- the right side, and its value to the targets
pub assigns : (names : List (List ℕ)) (ts : List Expr) (x : Expr) (old mid new : ℕ) (p : Part) (b : List Node) → IsExpressed names x old mid p → AreStored ts p.value mid new b → Assigned names ts x old new (Ok (p.block ++ b))
assigns names ts x old mid new p b e s =
    let l₁ : old ≤ mid = e.grows in
    let l₂ : mid ≤ new = s.grows in
    record {
      built = ap (λ u. built.before u ((built.expr x).unbuilt names)) s.built ∙ e.built;
      grows = omega arith;
      means = λ c m. syntax.Assign s.means (e.means c m);
      is = λ c m. two_is (λ a b. syntax.Assign a b) _ _ _ _ (s.is c m) (e.is c m);
      carries = λ c m h low caught st le.
          subst (λ d. CarriesStatement h low new caught (syntax.Assign s.means (e.means c m)) d) (sym (block_append p.block b))
          (assignment_carried h low mid new caught (e.means c m) s.means (block p.block) (block b) p.value (e.carries c m h low st le) (s.carries h mid (omega arith) (omega arith)));
      quiet = quiet_append p.block b (record { taken = e.taken; yields = e.yields }) s.quiet;
    }

pub augments : (names : List (List ℕ)) (line : ℕ) (to : Expr) (operator : Binary) (o : Op) (x : Expr) (old mid new : ℕ) (place : Place) (p : Part) (b : List Node) → o ≡ meaning.augmented_op operator → mid ≤ new → IsPlaced to place → IsExpressed names x old mid p → ((h : Homes) (low high : ℕ) (caught : Option ℕ) (y : syntax.Expression) → high ≤ mid → CarriesExpression h low high y (block p.block) p.value → CarriesStatement h low new caught (syntax.Augment line o (target_of place) y) (block b)) → (Quiet p.block → Quiet b) → Augmented names line to operator x old new (Ok b)
augments names line to operator o x old mid new place p b eo more pl e f q =
    let l : old ≤ mid = e.grows in
    record {
      built = ap (λ u. built.before u ((built.expr x).unbuilt names)) pl.built ∙ e.built;
      grows = omega arith;
      means = λ c m. syntax.Augment line (meaning.augmented_op operator) (target_of place) (e.means c m);
      is = λ c m. two_is (λ a b. syntax.Augment line (meaning.augmented_op operator) a b) _ _ _ _ (pl.is c m) (e.is c m);
      carries = λ c m h low caught st le.
          subst (λ op. CarriesStatement h low new caught (syntax.Augment line op (target_of place) (e.means c m)) (block b)) eo
          (f h low mid caught (e.means c m) (omega arith) (e.carries c m h low st le));
      quiet = q (record { taken = e.taken; yields = e.yields });
    }
