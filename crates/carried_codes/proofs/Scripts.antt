-- Scripts have the runs of their nodes.
use Rattle.std.proofs.Common.{◌≡◌, ℕ, zero, suc, Bool, List, [], ◌∷◌, map, length, Option, Some, None, refl, sym, ap, ◌∙◌, subst, arith}
use Rattle.std.specs.Prelude.{slice_get}
use Rattle.nu_run.specs.Runs.{Same}
use Rattle.nu_value.specs.declared.header.Header.{Header}
use Rattle.nu_value.specs.declared.value.Value.{Value}
use Rattle.op_forms.specs.Rules.{Rules}
use Rattle.node_tree.specs.declared.script.NodeCode.{NodeCode}
use Rattle.node_tree.specs.declared.script.NodeScript.{NodeScript}
use Rattle.node_tree.specs.Nodes as nodes
use Rattle.node_tree.specs.Run as node_run
use Rattle.node_tree.specs.Tree.{block_of, code_block}
use Rattle.py_meaning.specs.Bodies as bodies
use Rattle.py_meaning.specs.Syntax as syntax
use Rattle.py_safe.specs.Rosters.{Role, roster_of}
use Rattle.py_safe.specs.Constructs.{LawfulCodes}
use Rattle.carries_base.specs.Frames.{Homes, HaveRoom, begun}
use Rattle.carries_base.specs.Carries.{Setting, source, target, BegunAs, Correspond, BodyEnds, CarriedBy, CarriesCode, CarriesScript}
use Rattle.carries_base.proofs.Carry.{none_by}
use Rattle.carries_base.proofs.Scripts.{script_same}
use Rattle.carries_names.specs.Begun.{HaveHomes}
use Rattle.carries_names.proofs.Begins.{begins_alike}
use Rattle.carried_codes.specs.Nodes.{homes_of}
use Rattle.carried_codes.specs.Laws.{IsMadeOf, AreMadeOf}
use Rattle.carried_codes.proofs.Codes.{houses, code_carried}

-- no frames are those of a code that isn't there
abbrev absent : Homes
absent = record { params = 1; frees = 0; owns = 0; locals = 0; filled = 0; made = 0 }

abbrev homes_at : Option syntax.Code → Homes
homes_at (Some c) = homes_of c
homes_at None = absent

-- the same codes are there on both sides
abbrev MadeAt : Option syntax.Code → Option NodeCode → Type 0
MadeAt None None = Unit {0}
MadeAt (Some c) (Some k) = IsMadeOf c k
MadeAt c k = ⊥

made_at : (cs : List syntax.Code) (ks : List NodeCode) (n : ℕ) → AreMadeOf cs ks → MadeAt (slice_get cs n) (slice_get ks n)
made_at [] [] n m = tt
made_at (c ∷ cs) (k ∷ ks) zero m = m.0
made_at (c ∷ cs) (k ∷ ks) (suc n) m = made_at cs ks n m.1
made_at cs ks n m = absurd m

headers_are : (cs : List syntax.Code) (ks : List NodeCode) → AreMadeOf cs ks → map (λ code. code.header) cs ≡ map node_run.header ks
headers_are [] [] m = refl
headers_are (c ∷ cs) (k ∷ ks) m =
    ap (λ h. h ∷ map (λ code. code.header) cs) (sym m.0.header) ∙ ap (λ hs. node_run.header k ∷ hs) (headers_are cs ks m.1)
headers_are cs ks m = absurd m

have_homes : (c : syntax.Code) (k : NodeCode) → IsMadeOf c k → HaveHomes (homes_of c) c k
have_homes c k m = record {
  params = refl;
  given = ap (λ (h : Header). length h.params) m.header;
  frees = refl;
  cells = m.free;
  locals = refl;
  kind = ap (λ (h : Header). h.generator) m.header;
}

module _ (rules : Rules) (role : ℕ → Role) (script : NodeScript) (codes : List syntax.Code) (lawful : LawfulCodes role script.scripts codes) (made : AreMadeOf codes script.codes) where
  abbrev setting : Setting
  setting = record { rules = rules; codes = codes; script = script; homes = λ n. homes_at (slice_get codes n) }

  begins_by : (kind : Bool) (n : ℕ) (given cells : List Value) (c : Option syntax.Code) (k : Option NodeCode) → slice_get codes n ≡ c → slice_get script.codes n ≡ k → MadeAt c k
      → BegunAs (setting.homes n) ((source setting).frame kind n given cells) ((target setting).frame kind n given cells)
  begins_by kind n given cells None None ec ek m =
      subst (λ o. BegunAs (setting.homes n) (bodies.begun_frame kind n given cells o) ((target setting).frame kind n given cells)) (sym ec)
      (subst (λ o. BegunAs (setting.homes n) None (node_run.begun_frame kind n given cells o)) (sym ek) tt)
  begins_by kind n given cells (Some c) (Some k) ec ek m =
      let homes : homes_of c ≡ setting.homes n = ap homes_at (sym ec) in
      begins_alike setting n c k ec ek
      (subst (λ h. HaveRoom h) homes (houses (roster_of role codes) (role n) c (lawful.each n c ec)).room)
      (subst (λ h. HaveHomes h c k) homes (have_homes c k m)) kind given cells
  begins_by kind n given cells c k ec ek m = absurd m

  carried_by : (n : ℕ) (c : Option syntax.Code) (k : Option NodeCode) → slice_get codes n ≡ c → slice_get script.codes n ≡ k → MadeAt c k → CarriesCode setting n
  carried_by n None None ec ek m =
      let homes : absent ≡ setting.homes n = ap homes_at (sym ec) in
      subst (λ h. CarriedBy setting h (λ tabs. Correspond setting (begun h) tabs []) (BodyEnds setting) (bodies.code_row (source setting) (slice_get codes n)) (nodes.block_row (target setting) (code_block script.codes n))) homes
      (none_by setting absent (λ tabs. Correspond setting (begun absent) tabs []) (BodyEnds setting) _ _ (λ tabs s t y. let room = y.frames.room.params in omega (arith, room)))
  carried_by n (Some c) (Some k) ec ek m =
      code_carried (roster_of role codes) (role n) setting n c ec (ap homes_at ec) (ap block_of ek ∙ m.body) (lawful.each n c ec)
  carried_by n c k ec ek m = absurd m

  pub script_carried : CarriesScript setting
  script_carried = record {
    headers = headers_are codes script.codes made;
    begins = λ kind n given cells. begins_by kind n given cells (slice_get codes n) (slice_get script.codes n) refl refl (made_at codes script.codes n made);
    codes = λ n. carried_by n (slice_get codes n) (slice_get script.codes n) refl refl (made_at codes script.codes n made);
  }

  pub same_run : (input : List ℕ) → Same (bodies.codes_run rules script.name script.scripts codes input) (node_run.node_run rules script input)
  same_run input = script_same setting script_carried input
