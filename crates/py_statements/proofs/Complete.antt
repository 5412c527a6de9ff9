-- What the grammar of statements spells is read.
use Rattle.std.proofs.Common.{◌≡◌, ℕ, ◌<◌, Bool, true, false, List, [], ◌∷◌, ◌++◌, length, refl, ap, arith, append_assoc, length-append}
use Rattle.py_ast.specs.declared.token.Token.{Token}
use Rattle.py_ast.specs.declared.spelled.Word.{Word}
use Rattle.py_ast.specs.declared.spelled.Word.TheVariants as w
use Rattle.py_ast.specs.declared.stmt.Stmt.{Stmt}
use Rattle.py_ast.specs.declared.stmt.Branch.{Branch}
use Rattle.py_ast.specs.declared.stmt.Handler.{Handler}
use Rattle.py_grammar.specs.declared.role.Mark.{Mark}
use Rattle.py_grammar.specs.declared.role.Mark.TheVariants as m
use Rattle.py_grammar.specs.Levels.{mark, mark_of, line}
use Rattle.py_grammar.specs.Parse.{is_word}
use Rattle.py_statements.specs.Words.{closes}
use Rattle.py_statements.specs.Grammar.{Compound, Block, Statement, Statements, BranchOf, Elifs, Worded, Handlers}
use Rattle.py_statements.proofs.Starts.{goes_on, no_elif, no_else, no_except, statement_begin, statement_ends, statement_open, closing_ends, compound_begin, begins_statement}
use Rattle.py_statements.proofs.BlocksRead as b
use Rattle.py_statements.proofs.BlocksRead.{BlockIsRead, BranchIsRead, ElifsAreRead, WordedIsRead, CompoundIsRead, HandlersAreRead, StatementIsRead, StatementsAreRead, block_colon, worded_mark}

branch_mark : {v : Word} {h : ℕ} {b : Branch Stmt} {xs : List Token} → BranchOf v h b xs → (i : List Token) → mark (xs ++ i) ≡ m.Keyword v
branch_mark (BranchOf.branch t is a c) i = ap mark_of is

branch_line : {v : Word} {h : ℕ} {b : Branch Stmt} {xs : List Token} → BranchOf v h b xs → (i : List Token) → line (xs ++ i) ≡ b.line
branch_line (BranchOf.branch t is a c) i = refl

some_mark : (P : Mark → Bool) (xs : List Token) → P m.End ≡ false → ((i : List Token) → P (mark (xs ++ i)) ≡ true) → 0 < length xs
some_mark P [] h f = let e = f [] in cc
some_mark P (t ∷ xs) h f = omega arith

branch_some : {v : Word} {h : ℕ} {b : Branch Stmt} {xs : List Token} → BranchOf v h b xs → 0 < length xs
branch_some (BranchOf.branch {xs = xs} {ys = ys} t is a c) = omega (arith, length-append (t ∷ xs) ys)

handlers_mark : {h : ℕ} {c : Handler Stmt} {cs : List (Handler Stmt)} {ts : List Token} → Handlers h (c ∷ cs) ts → (i : List Token) → is_word w.Except (mark (ts ++ i)) ≡ true
handlers_mark (Handlers.last_handler t is a) i = ap (λ q. is_word w.Except (mark_of q)) is
handlers_mark (Handlers.handler t is a c d) i = ap (λ q. is_word w.Except (mark_of q)) is

statement_some : {h : ℕ} {body : List Stmt} {ts : List Token} → Statement h body ts → 0 < length ts
statement_some a = some_mark begins_statement _ refl (statement_begin a)

others_end : {h : ℕ} {body : List Stmt} {ts : List Token} → Statements h body ts → (inner : Bool) (rest : List Token) → closes inner (mark rest) ≡ true → goes_on (mark (ts ++ rest)) ≡ false
others_end Statements.none inner rest e = closing_ends inner _ e
others_end (Statements.more {xs = xs} {ys = ys} a c) inner rest e = rw (append_assoc xs ys rest) (statement_ends _ (statement_begin a (ys ++ rest)))

no_elif_behind : {h : ℕ} {body : List Stmt} {ts : List Token} → Worded w.Else h body ts → (rest : List Token) → goes_on (mark rest) ≡ false → is_word w.Elif (mark (ts ++ rest)) ≡ false
no_elif_behind a rest e = worded_mark (is_word w.Elif) false a refl rest (no_elif _ e)

mutual
  pub block_read : {h : ℕ} {body : List Stmt} {ts : List Token} → Block h body ts → BlockIsRead h body ts
  block_read (Block.one_line t is a) = b.on_one_line _ _ _ t is a
  block_read (Block.indented t u i e is newline indent a c dedent) = b.on_indented _ _ _ _ _ _ t u i e is newline indent (others_end c true) (statement_read a) (statements_read c) dedent

  pub statement_read : {h : ℕ} {body : List Stmt} {ts : List Token} → Statement h body ts → StatementIsRead h body ts
  statement_read (Statement.simple a) = b.on_simple _ _ _ a
  statement_read (Statement.compound a) = b.on_compound _ _ _ (compound_begin a) (compound_read a)

  pub statements_read : {h : ℕ} {body : List Stmt} {ts : List Token} → Statements h body ts → StatementsAreRead h body ts
  statements_read Statements.none = b.on_none
  statements_read (Statements.more a c) = b.on_more _ _ _ _ _ _ (statement_some a) (λ inner i. statement_open inner _ (statement_begin a i)) (others_end c) (statement_read a) (statements_read c)

  branch_read : {v : Word} {h : ℕ} {x : Branch Stmt} {ts : List Token} → BranchOf v h x ts → BranchIsRead h x ts
  branch_read (BranchOf.branch t is a c) = b.on_branch _ _ _ _ _ _ t a (block_colon c) (block_read c)

  elifs_read : {h : ℕ} {bs : List (Branch Stmt)} {ts : List Token} → Elifs h bs ts → ElifsAreRead h bs ts
  elifs_read Elifs.no_elif = b.on_no_elif
  elifs_read (Elifs.elif a c) = b.on_elif _ _ _ _ _ _ (λ i. ap (is_word w.Elif) (branch_mark a i)) (branch_some a) (branch_read a) (elifs_read c)

  worded_read : {v : Word} {h : ℕ} {body : List Stmt} {ts : List Token} → Worded v h body ts → WordedIsRead v h body ts
  worded_read (Worded.unwritten {w = v}) = b.on_unwritten v
  worded_read (Worded.written {w = v} t is a) = b.on_written v _ _ _ t is (block_read a)

  handlers_read : {h : ℕ} {cs : List (Handler Stmt)} {ts : List Token} → Handlers h cs ts → HandlersAreRead h cs ts
  handlers_read Handlers.no_handler = b.on_no_handler
  handlers_read (Handlers.last_handler t is a) = b.on_last_handler _ _ _ t is (block_colon a) (block_read a)
  handlers_read (Handlers.handler t is a c d) = b.on_handler _ _ _ _ _ _ _ _ _ _ t is a (block_colon c) (block_read c) (handlers_read d)

  compound_read : {h : ℕ} {x : Stmt} {ts : List Token} → Compound h x ts → CompoundIsRead h x ts
  compound_read (Compound.conditional a bs c) = b.on_if _ _ _ _ _ _ _ _ _ (branch_mark a) (branch_line a) (branch_read a) (elifs_read bs) (no_elif_behind c) (worded_read c)
  compound_read (Compound.while a c) = b.on_while _ _ _ _ _ _ (branch_mark a) (branch_read a) (worded_read c)
  compound_read (Compound.for t u is a in_ c d e) = b.on_for _ _ _ _ _ _ _ _ _ _ _ _ t u is a in_ c (block_colon d) (block_read d) (worded_read e)
  compound_read (Compound.catches {zs = zs} {vs = vs} t is a c d e) = b.on_catches _ _ _ _ _ _ _ _ _ _ _ _ _ t is (block_read a) (handlers_mark c) (handlers_read c)
      (λ rest ends. worded_mark (is_word w.Except) false d refl (vs ++ rest) (worded_mark (is_word w.Except) false e refl rest (no_except _ ends))) (worded_read d)
      (λ rest ends. worded_mark (is_word w.Else) false e refl rest (no_else _ ends)) (worded_read e)
  compound_read (Compound.finishes t u is a fin c) = b.on_finishes _ _ _ _ _ _ t u is (block_read a) fin (block_read c)
  compound_read (Compound.with t is a c) = b.on_with _ _ _ _ _ _ t is a (block_colon c) (block_read c)
  compound_read (Compound.def t u v z ds is n open_ ps close c) = b.on_def _ _ _ _ _ _ _ _ _ _ t u v z ds is n open_ ps close (block_read c)
  compound_read (Compound.class t u ds is n a c) = b.on_class _ _ _ _ _ _ _ _ _ _ t u ds is n a (block_colon c) (block_read c)
