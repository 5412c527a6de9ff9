-- A script has one answer.
use Rattle.std.proofs.Common.{◌≡◌, ◌≢◌, ℕ, List, Result, Ok, Err, refl, sym, ◌∙◌}
use Rattle.py_ast.specs.declared.token.Token.{Token}
use Rattle.py_lexer.specs.declared.refusals.LexEnd.{LexEnd}
use Rattle.py_lexer.specs.declared.refusals.LexEnd.TheVariants as end
use Rattle.py_lexer.specs.Script.{Tokens, Refuses}
use Rattle.py_lexer.specs.Laws.{OneAnswer}

abbrev pub ok : List Token → Result (List Token) LexEnd
ok a = Ok a

abbrev pub err : LexEnd → Result (List Token) LexEnd
err e = Err e

same_list : (a b : List Token) → ok a ≡ ok b → a ≡ b
same_list a b e = cc

same_refusal : (e f : LexEnd) → err e ≡ err f → e ≡ f
same_refusal e f h = cc

no_list : (a : List Token) (e : LexEnd) → ok a ≡ err e → ⊥
no_list a e h = cc

pub one_answer : (bytes : List ℕ) → OneAnswer bytes
one_answer bytes = record {
  lists = λ a b x y. same_list a b (sym x.lexed_ ∙ y.lexed_);
  list_or_refusal = λ a e free x y. apart a e free x y;
  refusals = λ e f e_free f_free x y. same e f e_free f_free x y;
}
  where
    apart : (a : List Token) (e : LexEnd) → e ≢ end.Memory → Tokens bytes a → Refuses bytes e → ⊥
    apart a end.Utf8 free x y = y x.utf8
    apart a end.Memory free x y = free refl
    apart a (end.Token line) free x y = no_list a (end.Token line) (sym x.lexed_ ∙ y.1)
    apart a (end.Indent line) free x y = no_list a (end.Indent line) (sym x.lexed_ ∙ y.1)
    apart a (end.Number line) free x y = no_list a (end.Number line) (sym x.lexed_ ∙ y.1)

    same : (e f : LexEnd) → e ≢ end.Memory → f ≢ end.Memory → Refuses bytes e → Refuses bytes f → e ≡ f
    same end.Memory f e_free f_free x y = absurd (e_free refl)
    same e end.Memory e_free f_free x y = absurd (f_free refl)
    same end.Utf8 end.Utf8 e_free f_free x y = refl
    same end.Utf8 (end.Token n) e_free f_free x y = absurd (x y.0)
    same end.Utf8 (end.Indent n) e_free f_free x y = absurd (x y.0)
    same end.Utf8 (end.Number n) e_free f_free x y = absurd (x y.0)
    same (end.Token m) end.Utf8 e_free f_free x y = absurd (y x.0)
    same (end.Indent m) end.Utf8 e_free f_free x y = absurd (y x.0)
    same (end.Number m) end.Utf8 e_free f_free x y = absurd (y x.0)
    same (end.Token m) (end.Token n) e_free f_free x y = same_refusal (end.Token m) (end.Token n) (sym x.1 ∙ y.1)
    same (end.Token m) (end.Indent n) e_free f_free x y = same_refusal (end.Token m) (end.Indent n) (sym x.1 ∙ y.1)
    same (end.Token m) (end.Number n) e_free f_free x y = same_refusal (end.Token m) (end.Number n) (sym x.1 ∙ y.1)
    same (end.Indent m) (end.Token n) e_free f_free x y = same_refusal (end.Indent m) (end.Token n) (sym x.1 ∙ y.1)
    same (end.Indent m) (end.Indent n) e_free f_free x y = same_refusal (end.Indent m) (end.Indent n) (sym x.1 ∙ y.1)
    same (end.Indent m) (end.Number n) e_free f_free x y = same_refusal (end.Indent m) (end.Number n) (sym x.1 ∙ y.1)
    same (end.Number m) (end.Token n) e_free f_free x y = same_refusal (end.Number m) (end.Token n) (sym x.1 ∙ y.1)
    same (end.Number m) (end.Indent n) e_free f_free x y = same_refusal (end.Number m) (end.Indent n) (sym x.1 ∙ y.1)
    same (end.Number m) (end.Number n) e_free f_free x y = same_refusal (end.Number m) (end.Number n) (sym x.1 ∙ y.1)
