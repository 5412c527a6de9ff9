-- The codes of accepted scripts are lawful, also with those of a built-in text behind them.
use Rattle.std.proofs.Common.{◌≡◌, ℕ, Bool, true, false, ◌+◌, ◌-◌, ◌<◌, List, [], ◌++◌, length, Some, Ok, inl, inr, refl, ap, ◌∙◌, sym, subst, arith}
use Rattle.std.specs.Prelude.{slice_get, option_map}
use Rattle.std.proofs.lemmas.Bool.{cases_lt}
use Rattle.std.proofs.lemmas.Option.{slice_get-map, slice_get_within}
use Rattle.std.proofs.lemmas.List.{length-append}
use Rattle.py_ast.specs.declared.scoped.Scoped.{Scoped}
use Rattle.py_ast.specs.declared.stmt.Script.{Script}
use Rattle.py_ast.specs.declared.stmt.Stmt.{Stmt}
use Rattle.py_scopes.specs.declared.survey.Survey.{Survey}
use Rattle.py_scopes.specs.Survey.{survey_of}
use Rattle.py_scopes.specs.Rules.{KeepsAll}
use Rattle.py_scopes.specs.Resolve.{Answers, AnswersBuiltIn, scopes_of}
use Rattle.py_scopes.specs.Nested.{Nest, ScopesNest}
use Rattle.py_meaning.specs.Syntax as syntax
use Rattle.py_meaning.specs.Resolved.{codes_of}
use Rattle.py_meaning.specs.Scopes.{kind_in}
use Rattle.py_safe.specs.Rosters.{Roster, roster_of, frees_in}
use Rattle.py_safe.specs.Constructs.{LawfulCode, LawfulCodes}
use Rattle.py_accepted.specs.Laws.{role_of, role_in, OneForEach, AcceptedScriptsAreLawful}
use Rattle.py_accepted.proofs.Lists.{got_in, got_behind}
use Rattle.py_accepted.proofs.Names.{scopes_length}
use Rattle.py_accepted.proofs.Doing.{Case}
use Rattle.py_accepted.proofs.Scripts.{all_fit, code_at, codes_for, none_more, shapes, coded_in}

-- A script alone

module _ (s : Survey) (keeps : KeepsAll s) (nests : Nest (scopes_of s)) (built_in : Bool) (xs : List Stmt) (same : s ≡ survey_of built_in xs) where
  abbrev codes : List syntax.Code
  codes = codes_for (scopes_of s) 0 xs

  abbrev its_roster : Roster
  its_roster = roster_of (role_in (scopes_of s)) codes

  abbrev its_case : Case
  its_case = record {
    survey = s;
    keeps = λ kind other. keeps kind;
    nests = nests;
    roster = its_roster;
    first = 0;
    coded = coded_in s keeps nests built_in xs same 0 [] refl its_roster
        (λ n x e. let is = ap (slice_get codes) (none_more n) ∙ e in (slice_get-map (λ code. code.header) codes (0 + n) ∙ ap (option_map (λ code. code.header)) is, ap frees_in is))
        (λ n l. ap (role_in (scopes_of s)) (none_more n));
  }

  alone_lawful : LawfulCodes (role_in (scopes_of s)) (length (scopes_of s)) codes
  alone_lawful =
      let f = all_fit its_case built_in xs same in
      record {
        some = omega (arith, f.count, scopes_length s);
        script = (omega (arith, f.count, scopes_length s), f.module_is);
        text = λ l. absurd (omega (arith, l, f.count, scopes_length s));
        each = λ n x e. (code_at its_case 0 n codes f.codes n x (omega arith) e).lawful;
      }

  alone_codes : OneForEach (scopes_of s) codes
  alone_codes =
      let f = all_fit its_case built_in xs same in
      record {
        count = sym f.count ∙ sym (scopes_length s);
        heads = λ n x e. (code_at its_case 0 n codes f.codes n x (omega arith) e).heading;
      }

script_codes : ScopesNest → (script : Script) (scoped : Scoped) → Answers script (Ok scoped) → OneForEach scoped.scopes (codes_of 0 scoped)
script_codes nests script scoped a =
    let s = survey_of false script.statements in
    let nest : Nest (scopes_of s) = subst Nest a.1.0 (nests false script scoped a) in
    subst (λ q. OneForEach q (codes_for q 0 scoped.script.statements)) (sym a.1.0)
    (subst (λ t. OneForEach (scopes_of s) (codes_for (scopes_of s) 0 t.statements)) (sym a.0) (alone_codes s a.1.1 nest false script.statements refl))

script_lawful : ScopesNest → (script : Script) (scoped : Scoped) → Answers script (Ok scoped) → LawfulCodes (role_in scoped.scopes) (length scoped.scopes) (codes_of 0 scoped)
script_lawful nests script scoped a =
    let s = survey_of false script.statements in
    let nest : Nest (scopes_of s) = subst Nest a.1.0 (nests false script scoped a) in
    subst (λ q. LawfulCodes (role_in q) (length q) (codes_for q 0 scoped.script.statements)) (sym a.1.0)
    (subst (λ t. LawfulCodes (role_in (scopes_of s)) (length (scopes_of s)) (codes_for (scopes_of s) 0 t.statements)) (sym a.0) (alone_lawful s a.1.1 nest false script.statements refl))

-- With the built-in text behind

module _ (s t : Survey) (keeps : KeepsAll s) (keeps_too : KeepsAll t) (nests : Nest (scopes_of s)) (nests_too : Nest (scopes_of t)) (xs ys : List Stmt) (same : s ≡ survey_of false xs) (same_too : t ≡ survey_of true ys) where
  abbrev behind : ℕ
  behind = length (scopes_of s)

  abbrev script : List syntax.Code
  script = codes_for (scopes_of s) 0 xs

  abbrev text : List syntax.Code
  text = codes_for (scopes_of t) behind ys

  abbrev roster : Roster
  roster = roster_of (role_in (scopes_of s ++ scopes_of t)) (script ++ text)

  count : behind ≡ length script
  count = scopes_length s ∙ (shapes s keeps nests false xs same 0 [] refl).count

  role_here : (n : ℕ) → n < behind → role_in (scopes_of s ++ scopes_of t) n ≡ role_in (scopes_of s) n
  role_here n l = ap (λ o. role_of (kind_in o)) (got_in (scopes_of s) (scopes_of t) n l)

  role_there : (n m : ℕ) → behind + n ≡ m → role_in (scopes_of s ++ scopes_of t) m ≡ role_in (scopes_of t) n
  role_there n m l = ap (λ o. role_of (kind_in o)) (got_behind (scopes_of s) (scopes_of t) n m l)

  at_code : (m : ℕ) (x : syntax.Code) → slice_get (script ++ text) m ≡ Some x → (slice_get roster.headers m ≡ Some x.header) × (roster.frees m ≡ x.frees)
  at_code m x e = (slice_get-map (λ code. code.header) (script ++ text) m ∙ ap (option_map (λ code. code.header)) e, ap frees_in e)

  abbrev case : Case
  case = record {
    survey = s;
    keeps = λ kind other. keeps kind;
    nests = nests;
    roster = roster;
    first = 0;
    coded = coded_in s keeps nests false xs same 0 [] refl roster
        (λ n x e. let l = slice_get_within script n x e in at_code (0 + n) x (ap (slice_get (script ++ text)) (none_more n) ∙ got_in script text n l ∙ e))
        (λ n l. ap (role_in (scopes_of s ++ scopes_of t)) (none_more n) ∙ role_here n (omega (arith, l, scopes_length s)));
  }

  abbrev case_too : Case
  case_too = record {
    survey = t;
    keeps = λ kind other. keeps_too kind;
    nests = nests_too;
    roster = roster;
    first = behind;
    coded = coded_in t keeps_too nests_too true ys same_too behind (scopes_of s) refl roster
        (λ n x e. at_code (behind + n) x (got_behind script text n (behind + n) (omega (arith, count)) ∙ e))
        (λ n l. role_there n (behind + n) refl);
  }

  pub both_lawful : LawfulCodes (role_in (scopes_of s ++ scopes_of t)) behind (script ++ text)
  both_lawful =
      let f = all_fit case false xs same in
      let g = all_fit case_too true ys same_too in
      record {
        some = omega (arith, count, length-append script text);
        script = (omega (arith, f.count, scopes_length s), role_here 0 (omega (arith, f.count, scopes_length s)) ∙ f.module_is);
        text = λ l. role_there 0 behind (omega arith) ∙ g.module_is;
        each = λ n x e. elim (cases_lt n (length script)) as (λ o. LawfulCode roster (role_in (scopes_of s ++ scopes_of t) n) x) [
          | inl l ↦ subst (λ role. LawfulCode roster role x) (sym (role_here n (omega (arith, l, count)))) (code_at case 0 n script f.codes n x (omega arith) (sym (got_in script text n l) ∙ e)).lawful
          | inr l ↦ (let j = n - length script in
              subst (λ role. LawfulCode roster role x) (sym (role_there j n (omega (arith, l, count))))
              (code_at case_too 0 j text g.codes j x (omega arith) (sym (got_behind script text j n (omega (arith, l))) ∙ e)).lawful)
        ];
      }

text_lawful : ScopesNest → (script : Script) (scoped : Scoped) (text : Script) (behind : Scoped) → Answers script (Ok scoped) → AnswersBuiltIn text (Ok behind)
    → LawfulCodes (role_in (scoped.scopes ++ behind.scopes)) (length scoped.scopes) (codes_for scoped.scopes 0 scoped.script.statements ++ codes_for behind.scopes (length scoped.scopes) behind.script.statements)
text_lawful nests script scoped text behind a b =
    let s = survey_of false script.statements in
    let t = survey_of true text.statements in
    let nest : Nest (scopes_of s) = subst Nest a.1.0 (nests false script scoped a) in
    let nest_too : Nest (scopes_of t) = subst Nest b.1.0 (nests true text behind b) in
    subst (λ p. LawfulCodes (role_in (p ++ behind.scopes)) (length p) (codes_for p 0 scoped.script.statements ++ codes_for behind.scopes (length p) behind.script.statements)) (sym a.1.0)
    (subst (λ q. LawfulCodes (role_in (scopes_of s ++ q)) (length (scopes_of s)) (codes_for (scopes_of s) 0 scoped.script.statements ++ codes_for q (length (scopes_of s)) behind.script.statements)) (sym b.1.0)
    (subst (λ u. LawfulCodes (role_in (scopes_of s ++ scopes_of t)) (length (scopes_of s)) (codes_for (scopes_of s) 0 u.statements ++ codes_for (scopes_of t) (length (scopes_of s)) behind.script.statements)) (sym a.0)
    (subst (λ v. LawfulCodes (role_in (scopes_of s ++ scopes_of t)) (length (scopes_of s)) (codes_for (scopes_of s) 0 script.statements ++ codes_for (scopes_of t) (length (scopes_of s)) v.statements)) (sym b.0)
    (both_lawful s t a.1.1 b.1.1 nest nest_too script.statements text.statements refl refl))))

pub accepted_scripts_are_lawful : ScopesNest → AcceptedScriptsAreLawful
accepted_scripts_are_lawful nests = record { codes = script_codes nests; alone = script_lawful nests; with_text = text_lawful nests }
