-- Where no statement stands: none of its forms does.
use Rattle.std.proofs.Common.{ℕ, ◌^◌, List, []}
use Rattle.std.specs.Prelude.{codes}
use Rattle.op_forms.specs.declared.op.Op.{Op}
use Rattle.code_forms.specs.declared.operand.Operand.{Operand}
use Rattle.code_forms.specs.declared.operand.Argument.{Argument}
use Rattle.c_meaning.specs.declared.program.Stored.{Stored}
use Rattle.c_meaning.specs.declared.program.Stored.TheVariants as stored
use Rattle.c_meaning.specs.declared.program.Statement.{Statement}
use Rattle.c_meaning.specs.declared.program.Statement.TheVariants as statement
use Rattle.c_reader.specs.Pieces.{FieldStands}
use Rattle.c_reader.specs.Statements.{IsNotFront, ValuedStands, JumpStands, KeptStands, StoredStands, StatementStands}

abbrev NoField : List ℕ → List ℕ → List ℕ → Type 0
NoField opening closing text = (n : ℕ) (rest : List ℕ) → FieldStands (2 ^ 64) opening closing text n rest → ⊥

abbrev NoValued : ℕ → List ℕ → List ℕ → List ℕ → Type 0
NoValued registers opening closing text = (a : Operand) (rest : List ℕ) → ValuedStands registers opening closing text a rest → ⊥

abbrev NoJump : ℕ → List ℕ → List ℕ → List ℕ → Type 0
NoJump registers opening closing text = (a : Operand) (label : ℕ) (rest : List ℕ) → JumpStands registers opening closing text a label rest → ⊥

abbrev NoKept : ℕ → List ℕ → List ℕ → Type 0
NoKept registers opening text = (n : ℕ) (a : Operand) (rest : List ℕ) → KeptStands registers opening text n a rest → ⊥

pub no_stored : (registers : ℕ) (text : List ℕ) → NoValued registers [] (codes ";\n") text → ((o : Op) (at : ℕ) (given : List Argument) (fail : ℕ) (rest : List ℕ) → StoredStands registers text (stored.Operation o at given fail) rest → ⊥)
    → IsNotFront (codes "nu_unset;\n") text → NoField (codes "nu_arg(fr, ") (codes ");\n") text → NoField (codes "nu_free(fr, ") (codes ");\n") text → NoField (codes "nu_load(fr, ") (codes ");\n") text → IsNotFront (codes "nu_caught(fr);\n") text
    → ((at fail : ℕ) (rest : List ℕ) → StoredStands registers text (stored.Sent at fail) rest → ⊥) → (s : Stored) (rest : List ℕ) → StoredStands registers text s rest → ⊥
no_stored registers text value operation unset parameter free load caught sent s rest stands = go s stands
  where
    go : (s : Stored) → StoredStands registers text s rest → ⊥
    go (stored.Value a) s = value a rest (record { is = s.is; spelled = s.spelled })
    go stored.Unset s = unset rest s.spelled
    go (stored.Parameter n) s = parameter n rest (record { fits = s.is; spelled = s.spelled })
    go (stored.Free n) s = free n rest (record { fits = s.is; spelled = s.spelled })
    go (stored.Load slot) s = load slot rest (record { fits = s.is; spelled = s.spelled })
    go stored.Caught s = caught rest s.spelled
    go (stored.Sent at fail) s = sent at fail rest s
    go (stored.Operation o at given fail) s = operation o at given fail rest s

pub no_statement : (registers : ℕ) (text : List ℕ) → ((to : ℕ) (what : Stored) (rest : List ℕ) → StatementStands registers text (statement.Store to what) rest → ⊥) → NoField (codes "  goto L") (codes ";\n") text
    → NoJump registers (codes "  if (nu_is(") (codes ")) goto L") text → NoJump registers (codes "  nu_again(fr, ") (codes "); goto L") text → NoValued registers (codes "  return nu_give(fr, ") (codes ");\n") text
    → IsNotFront (codes "  return nu_end(fr);\n") text → IsNotFront (codes "  return nu_fail(fr);\n") text → ((labels rest : List ℕ) → StatementStands registers text (statement.Switch labels) rest → ⊥)
    → NoKept registers (codes "  nu_save(fr, ") text → NoKept registers (codes "  return nu_pause(fr, ") text → (s : Statement) (rest : List ℕ) → StatementStands registers text s rest → ⊥
no_statement registers text store goto branch again give end fail switch save pause s rest stands = go s stands
  where
    go : (s : Statement) → StatementStands registers text s rest → ⊥
    go (statement.Store to what) s = store to what rest s
    go (statement.Goto label) s = goto label rest (record { fits = s.is; spelled = s.spelled })
    go (statement.Branch test label) s = branch test label rest (record { is = s.is.0; label_is = s.is.1; spelled = s.spelled })
    go (statement.Again exception label) s = again exception label rest (record { is = s.is.0; label_is = s.is.1; spelled = s.spelled })
    go (statement.Give value) s = give value rest (record { is = s.is; spelled = s.spelled })
    go statement.End s = end rest s.spelled
    go statement.Fail s = fail rest s.spelled
    go (statement.Switch labels) s = switch labels rest s
    go (statement.Save slot value) s = save slot value rest (record { number = s.is.0; is = s.is.1; spelled = s.spelled })
    go (statement.Pause number value) s = pause number value rest (record { number = s.is.0; is = s.is.1; spelled = s.spelled })
