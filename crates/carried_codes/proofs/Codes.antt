-- Codes are carried by their nodes.
use Rattle.std.proofs.Common.{◌≡◌, ℕ, ◌-◌, ◌<◌, ◌≤◌, List, [], ◌∷◌, length, false, Option, None, Some, IsTrue, refl, sym, subst, arith}
use Rattle.std.specs.Prelude.{slice_get}
use Rattle.node_tree.specs.Tree.{code_block}
use Rattle.py_meaning.specs.Syntax as syntax
use Rattle.py_safe.specs.Rosters.{Role, OfModule, OfFunction, OfClass, Roster}
use Rattle.py_safe.specs.Constructs.{Room, room_of, LawfulBody, LawfulCode, OwnsWithin}
use Rattle.carries_base.specs.Frames.{Homes, HaveRoom, behind}
use Rattle.carries_base.specs.Carries.{Setting, CarriesCode}
use Rattle.carries_names.specs.Begun.{begun_block, HoldParams, AreWhole, CarriesBody}
use Rattle.carries_names.proofs.Codes.{statements_carried, value_carried}
use Rattle.carries_names.proofs.Codes as carried
use Rattle.carried_codes.specs.Statements.{return_value}
use Rattle.carried_codes.specs.Nodes.{value, block, body, homes_of, code_nodes}
use Rattle.carried_codes.specs.Laws.{Houses, Catches}
use Rattle.carried_codes.proofs.Expressions as expressions
use Rattle.carried_codes.proofs.Statements as statements
use Rattle.carried_codes.proofs.Collected.{collect_carried}

hold : (n : ℕ) (owns : List (Option ℕ)) → OwnsWithin n owns → HoldParams n owns
hold n [] w = tt
hold n (None ∷ owns) w = hold n owns w
hold n (Some place ∷ owns) w = (w.0, hold n owns w.1)

no : IsTrue false → ⊥
no e = cc

has_names : (r : Roster) (role : Role) (c : syntax.Code) → LawfulCode r role c → IsTrue (room_of role c).names → 0 < c.locals
has_names r OfClass c l e = let l₁ = l.params in let l₂ = l.bound in omega arith
has_names r OfModule c l e = absurd (no e)
has_names r OfFunction c l e = absurd (no e)

pub houses : (r : Roster) (role : Role) (c : syntax.Code) → LawfulCode r role c → Houses (room_of role c) (homes_of c)
houses r role c l = record {
  room = record { params = l.params; filled = omega arith; made = omega arith };
  locals = refl;
  owns = refl;
  frees = refl;
  names = has_names r role c l;
}

whole : (r : Roster) (role : Role) (c : syntax.Code) → LawfulCode r role c → AreWhole (homes_of c) (c.locals - length c.header.params) c.owns
whole r role c l = let le = l.params in record { locals = omega arith; filled = refl; owns = refl; made = refl; hold = hold (length c.header.params) c.owns l.owns }

module _ (r : Roster) (z : Setting) (room : Room) (h : Homes) (k : Houses room h) (q : Catches room None) (bound : room.bound ≤ h.filled) where
  body_carried : (b : syntax.Body) → LawfulBody r room b → CarriesBody z h b (body h (behind h) b)
  unfolding return_value
  body_carried (syntax.Statements b) l =
      statements_carried z h (behind h) (block h None (behind h) b).next b (block h None (behind h) b).block (statements.block_carried r h room None false (behind h) b k q (omega arith) l)
  body_carried (syntax.Value' x) l =
      let p = value h (behind h) x in value_carried z h (behind h) p.next x p.part.block p.part.value (expressions.value_carried r room h k (behind h) x (omega arith) l)
  body_carried (syntax.Collect line into x inner) l =
      let some = l.1 in collect_carried r room h k z line (omega arith) (behind h) into x inner (omega arith) l.2 l.3

pub code_carried : (r : Roster) (role : Role) (z : Setting) (n : ℕ) (c : syntax.Code) → slice_get z.codes n ≡ Some c → z.homes n ≡ homes_of c → code_block z.script.codes n ≡ code_nodes c → LawfulCode r role c → CarriesCode z n
code_carried r role z n c at homes is l =
    let h = homes_of c in let back : h ≡ z.homes n = sym homes in let le = l.params in let bound = l.bound in
    carried.code_carried z n (behind h) (c.locals - length c.header.params) c (body h (behind h) c.body) at
    (subst (λ g. HaveRoom g) back (houses r role c l).room)
    (subst (λ g. AreWhole g (c.locals - length c.header.params) c.owns) back (whole r role c l))
    (let P : Homes → Type 0 = λ g. behind g ≤ behind h in subst P back (omega arith))
    (subst (λ g. code_block z.script.codes n ≡ begun_block g c.header.line (behind h) (c.locals - length c.header.params) c.owns (body h (behind h) c.body)) back is)
    (subst (λ g. CarriesBody z g c.body (body h (behind h) c.body)) back (body_carried r z (room_of role c) h (houses r role c l) tt (omega arith) c.body l.body))
