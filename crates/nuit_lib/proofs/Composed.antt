-- The stages one after another, from a resolved script to the program that is written.
use Rattle.std.proofs.Common.{◌≡◌, ℕ, ◌+◌, List, [], ◌∷◌, length, map, None, Ok, refl, sym, ◌∙◌, ap, subst, arith}
use Rattle.std.specs.Prelude.{not}
use Rattle.std.specs.List.{AllByRecursion}
use Rattle.std.proofs.lemmas.List.{length-map}
use Rattle.nu_run.specs.Runs.{Same}
use Rattle.nu_run.proofs.Runs.{same_trans}
use Rattle.op_rules.specs.TableRules.{table_rules}
use Rattle.py_ast.specs.declared.scoped.Scoped.{Scoped}
use Rattle.py_scopes.specs.Resolve.{Answers}
use Rattle.py_meaning.specs.Script.{py_run}
use Rattle.py_safe.specs.Laws.{RunsNeverEndUndefined}
use Rattle.py_table.specs.Laws.{TheTableKeepsLaw}
use Rattle.py_accepted.specs.Laws.{AcceptedScriptsNeverEndUndefined}
use Rattle.code_forms.specs.Taking.{is_taken}
use Rattle.node_tree.specs.declared.script.NodeCode.{NodeCode}
use Rattle.node_tree.specs.declared.script.NodeScript.{NodeScript}
use Rattle.node_tree.specs.Run as node_run
use Rattle.node_tree.specs.Tree.{block}
use Rattle.reform_all.specs.Scripts.{module_header, IsReformed}
use Rattle.reform_all.specs.Taken as nodes
use Rattle.flow_code.specs.declared.function.FlatFunction.{FlatFunction}
use Rattle.flow_code.specs.declared.function.FlatScript.{FlatScript}
use Rattle.flow_code.specs.Run.{header}
use Rattle.flow_lower.specs.Correct as lowering
use Rattle.flow_lower.specs.Kept as lowering_kept
use Rattle.generator_cut.specs.Correct as cutting
use Rattle.generator_cut.specs.Writable.{IsCounted, IsHeading, refused}
use Rattle.c_meaning.specs.declared.program.CProgram.{CProgram}
use Rattle.c_meaning.specs.Run.{c_run}
use Rattle.nuit_lib.specs.Compiled.{IsProgramOf}

-- From codes to flat functions

pub headers_are : (ks : List NodeCode) (fs : List FlatFunction) → lowering.LowersEach ks fs → map header fs ≡ map node_run.header ks
headers_are [] [] h = refl
headers_are [] (f ∷ fs) h = absurd h
headers_are (k ∷ ks) [] h = absurd h
headers_are (k ∷ ks) (f ∷ fs) h = ap (λ x. x ∷ map header fs) h.0.header ∙ ap (λ xs. node_run.header k ∷ xs) (headers_are ks fs h.1)

flat_taken : (ks : List NodeCode) (fs : List FlatFunction) → lowering_kept.KeepsEach ks fs → AllByRecursion (λ k. nodes.refused (block k.body) ≡ 0) ks → AllByRecursion (λ f. refused f.body ≡ 0) fs
flat_taken [] [] h a = tt
flat_taken [] (f ∷ fs) h a = absurd h
flat_taken (k ∷ ks) [] h a = absurd h
flat_taken (k ∷ ks) (f ∷ fs) h a = (h.0.operations (λ o args. not (is_taken o args)) ∙ a.0, flat_taken ks fs h.1 a.1)

-- What `cut` asks for

heading_is : AllByRecursion IsHeading (module_header ∷ [])
heading_is = (record { params = tt; order = refl; from_one = omega arith }, tt)

no_others : (scripts others all : ℕ) → scripts + others ≡ all → scripts ≡ 1 → all ≡ 1 → others ≡ 0
no_others scripts others all h one alone = omega (arith, h, one, alone)

module _ (name : List ℕ) (s : Scoped) (tree : NodeScript) (lines : FlatScript) (r : IsReformed name s tree) (l : lowering.Lowers tree lines) (kept : lowering_kept.KeepsEach tree.codes lines.functions) where
  heads : map header lines.functions ≡ map node_run.header tree.codes
  heads = headers_are tree.codes lines.functions l.functions

  one_head : map header lines.functions ≡ module_header ∷ []
  one_head = heads ∙ r.«module»

  one_function : length lines.functions ≡ 1
  one_function = sym (length-map lines.functions header) ∙ ap length one_head

  one_script : lines.scripts ≡ 1
  one_script = l.scripts ∙ r.scripts ∙ r.single

  pub counted : IsCounted lines
  counted = let a = one_script in let b = one_function in record { some = omega (arith, a); within = omega (arith, a, b); few = omega (arith, b) }

  pub headings : AllByRecursion IsHeading (map header lines.functions)
  headings = subst (AllByRecursion IsHeading) (sym one_head) heading_is

  pub all_taken : AllByRecursion (λ f. refused f.body ≡ 0) lines.functions
  all_taken = flat_taken tree.codes lines.functions kept r.taken

  -- The program is the script's

  module _ (law : RunsNeverEndUndefined) (table : TheTableKeepsLaw) (defined : AcceptedScriptsNeverEndUndefined) (lowered : lowering.DoesTheSame tree lines) (p : CProgram) (cut : cutting.DoesTheSame lines p) (heads_kept : cutting.HasHeads lines p) where
    pub is_program : Answers s.script (Ok s) → IsProgramOf name s p
    is_program accepted = record {
      file = heads_kept.name ∙ l.name ∙ r.name;
      builtins = no_others _ _ _ heads_kept.all (heads_kept.scripts ∙ one_script) one_function;
      scripts = heads_kept.scripts ∙ l.scripts ∙ r.scripts;
      headers = heads_kept.headers ∙ heads ∙ r.headers;
      same = λ input. same input;
    }
      where
        same : (input : List ℕ) → Same (py_run table_rules name s None input) (c_run table_rules p input)
        same input =
            let d0 = defined.alone table_rules table name s.script s accepted input in
            let s1 = r.same table_rules input in
            let d1 = law.same _ _ s1 d0 in
            let s2 = lowered table_rules input d1 in
            let d2 = law.same _ _ s2 d1 in
            let s3 = cut table_rules input d2 in
            same_trans _ _ _ s1 (same_trans _ _ _ s2 s3)
