-- Lawful targets go right, where a value is assigned to them, where they are augmented and where they are deleted.
use Rattle.std.proofs.Common.{ℕ, List, [], ◌∷◌, refl, arith, ◌+◌}
use Rattle.nu_value.specs.declared.value.Value.{Value}
use Rattle.nu_value.specs.declared.value.Value.TheVariants as value
use Rattle.op_forms.specs.declared.op.Op.{Op}
use Rattle.op_forms.specs.declared.op.Op.TheVariants as op
use Rattle.nu_rows.specs.Words.{then_value}
use Rattle.nu_calls.specs.Calls.{operate}
use Rattle.py_meaning.specs.Syntax as syntax
use Rattle.py_meaning.specs.Frames.{R as Rw, text}
use Rattle.py_meaning.specs.Expressions.{gives, expression}
use Rattle.py_meaning.specs.Statements.{assign, assign_all, augment, number, count, delete, delete_each, assign_each}
use Rattle.py_safe.specs.Heaps.{View, Grows, IsThere}
use Rattle.py_safe.specs.Constructs.{Room, TakesTwo, LawfulExpression, LawfulTarget, LawfulTargets, IsSingle, LawfulDeletion, LawfulDeletions}
use Rattle.py_safe.proofs.Right.{Program, source, roster, Anything, RightBy}
use Rattle.py_safe.proofs.Growth.{grows_refl, grows_trans, there_more}
use Rattle.py_safe.proofs.Rows.{value_right}
use Rattle.py_safe.proofs.Operations.{OpGives, operate_right}
use Rattle.py_safe.proofs.Names.{There, anything, there_right, there_maybe, both, value_fits, load_right, store_right, unbind_right}
use Rattle.py_safe.proofs.Passing.{done_right}
use Rattle.py_safe.proofs.Expressions.{two_right, expression_right}

module _ (z : Program) (r : Room) where
  pub set_attribute : (v : View) (line : ℕ) (o x : Value) (name : List ℕ) → IsThere v o → IsThere v x → RightBy z r r 0 Anything v (operate (source z) line op.SetAttr (o ∷ text name ∷ x ∷ []))
  set_attribute v line o x name p q =
      anything z r 0 (OpGives op.SetAttr) v _ (operate_right z r line op.SetAttr (o ∷ text name ∷ x ∷ []) v
      (λ w marks ok g. both _ _ (value_fits v o w marks g p) (both _ _ (value_fits v x w marks g q) refl)) (there_maybe v o p, ((tt, tt), (there_maybe v x q, tt))) tt)

  pub set_index : (v : View) (line : ℕ) (o i x : Value) → IsThere v o → IsThere v i → IsThere v x → RightBy z r r 0 Anything v (operate (source z) line op.SetIndex (o ∷ i ∷ x ∷ []))
  set_index v line o i x p q a =
      anything z r 0 (OpGives op.SetIndex) v _ (operate_right z r line op.SetIndex (o ∷ i ∷ x ∷ []) v
      (λ w marks ok g. both _ _ (value_fits v o w marks g p) (both _ _ (value_fits v i w marks g q) (both _ _ (value_fits v x w marks g a) refl))) (there_maybe v o p, (there_maybe v i q, (there_maybe v x a, tt))) tt)

  index_right : (v : View) (line : ℕ) (list i : Value) → IsThere v list → IsThere v i → RightBy z r r 0 There v (operate (source z) line op.Index (list ∷ i ∷ []))
  index_right v line list i p q =
      there_right z r op.Index v _ (operate_right z r line op.Index (list ∷ i ∷ []) v
      (λ w marks ok g. both _ _ (value_fits v list w marks g p) (both _ _ (value_fits v i w marks g q) refl)) (there_maybe v list p, (there_maybe v i q, tt)) tt)

  mutual
    pub assign_right : (t : syntax.Target) → LawfulTarget (roster z) r t → (v : View) (x : Value) → IsThere v x → RightBy z r r 0 Anything v (assign (source z) x t)
    assign_right (syntax.ToName line home) p v x q = store_right z r v line home x p q
    assign_right (syntax.ToAttribute line y name) p v x q =
        value_right z r 0 0 There Anything v _ _ (omega arith) (expression_right z r y p v) (λ o g w a. set_attribute g line o x name a (there_more v g w x q))
    assign_right (syntax.ToIndex line y i) p v x q =
        value_right z r 0 0 There Anything v _ _ (omega arith) (expression_right z r y p.0 v)
        (λ o g w a. value_right z r 0 0 There Anything g _ _ (omega arith) (expression_right z r i p.1 g)
        (λ j g' w' b. set_index g' line o j x (there_more g g' w' o a) b (there_more v g' (grows_trans v g g' w w') x q)))
    assign_right (syntax.ToEach line ts) p v x q =
        value_right z r 0 0 There Anything v _ _ (omega arith)
        (there_right z r op.Unpack v _ (operate_right z r line op.Unpack (x ∷ number (count ts) ∷ []) v (λ w marks ok g. both _ _ (value_fits v x w marks g q) refl) (there_maybe v x q, ((tt, tt), tt)) tt))
        (λ list g w a. assign_each_right ts p g line list 0 (gives value.None) a (λ g' w'. done_right z r 0 g'))
    assign_right (syntax.ToStarred line before star behind) p v x q =
        value_right z r 0 0 There Anything v _ _ (omega arith)
        (there_right z r op.UnpackStar v _ (operate_right z r line op.UnpackStar (x ∷ number (count before) ∷ number (count behind) ∷ []) v (λ w marks ok g. both _ _ (value_fits v x w marks g q) refl) (there_maybe v x q, ((tt, tt), ((tt, tt), tt))) tt))
        (λ list g w a. assign_each_right before p.0 g line list 0 _ a
        (λ g₁ w₁. value_right z r 0 0 Anything Anything g₁ _ _ (omega arith)
        (value_right z r 0 0 There Anything g₁ _ _ (omega arith) (index_right g₁ line list (number (count before)) (there_more g g₁ w₁ list a) (tt, tt)) (λ u g₂ w₂ b. assign_right star p.1 g₂ u b))
        (λ u g₃ w₃ y. assign_each_right behind p.2 g₃ line list (count before + 1) (gives value.None) (there_more g g₃ (grows_trans g g₁ g₃ w₁ w₃) list a) (λ g' w'. done_right z r 0 g'))))
    assign_right syntax.ToNothing p v x q = absurd p

    assign_each_right : (ts : syntax.Targets) → LawfulTargets (roster z) r ts → (v : View) (line : ℕ) (list : Value) (n : ℕ) (row : Rw) → IsThere v list → ((g : View) → Grows v g → RightBy z r r 0 Anything g row) → RightBy z r r 0 Anything v (assign_each (source z) line list n ts row)
    assign_each_right syntax.NoTarget p v line list n row q x = x v (grows_refl v)
    assign_each_right (syntax.AlsoTo t ts) p v line list n row q x =
        value_right z r 0 0 Anything Anything v _ _ (omega arith)
        (value_right z r 0 0 There Anything v _ _ (omega arith) (index_right v line list (number n) q (tt, tt)) (λ y g w a. assign_right t p.0 g y a))
        (λ u g w y. assign_each_right ts p.1 g line list (n + 1) row (there_more v g w list q) (λ g' w'. x g' (grows_trans v g g' w w')))

  pub assign_all_right : (ts : syntax.Targets) → LawfulTargets (roster z) r ts → (v : View) (x : Value) → IsThere v x → RightBy z r r 0 Anything v (assign_all (source z) x ts)
  assign_all_right syntax.NoTarget p v x q = done_right z r 0 v
  assign_all_right (syntax.AlsoTo t ts) p v x q =
      value_right z r 0 0 Anything Anything v _ _ (omega arith) (assign_right t p.0 v x q) (λ u g w y. assign_all_right ts p.1 g x (there_more v g w x q))

  -- the operation of two values, and what follows its value
  two_then : (v : View) (line : ℕ) (o : Op) (x y : Value) (k : Value → Rw) → TakesTwo o → IsThere v x → IsThere v y → ((u : Value) (g : View) → Grows v g → IsThere g u → RightBy z r r 0 Anything g (k u)) → RightBy z r r 0 Anything v (then_value (operate (source z) line o (x ∷ y ∷ [])) k)
  two_then v line o x y k t p q next = value_right z r 0 0 There Anything v _ k (omega arith) (there_right z r o v _ (two_right z r v line o x y t p q)) next

  pub augment_right : (line : ℕ) (o : Op) (t : syntax.Target) (x : syntax.Expression) → TakesTwo o → IsSingle (roster z) t → LawfulTarget (roster z) r t → LawfulExpression (roster z) r x → (v : View) → RightBy z r r 0 Anything v (augment (source z) line o (expression (source z) x) t)
  augment_right line o (syntax.ToName at home) x t one p q v =
      value_right z r 0 0 There Anything v _ _ (omega arith) (load_right z r v at home p)
      (λ y g₁ w₁ a. value_right z r 0 0 There Anything g₁ _ _ (omega arith) (expression_right z r x q g₁)
      (λ u g₂ w₂ b. two_then g₂ line o y u _ t (there_more g₁ g₂ w₂ y a) b (λ s g₃ w₃ c. store_right z r g₃ at home s p c)))
  augment_right line o (syntax.ToAttribute at y name) x t one p q v =
      value_right z r 0 0 There Anything v _ _ (omega arith) (expression_right z r y p v)
      (λ object g₁ w₁ a. value_right z r 0 0 There Anything g₁ _ _ (omega arith)
      (there_right z r op.Attr g₁ _ (operate_right z r at op.Attr (object ∷ text name ∷ []) g₁ (λ w marks ok g. both _ _ (value_fits g₁ object w marks g a) refl) (there_maybe g₁ object a, ((tt, tt), tt)) tt))
      (λ s g₂ w₂ b. value_right z r 0 0 There Anything g₂ _ _ (omega arith) (expression_right z r x q g₂)
      (λ u g₃ w₃ c. two_then g₃ line o s u _ t (there_more g₂ g₃ w₃ s b) c
      (λ i g₄ w₄ d. set_attribute g₄ at object i name (there_more g₁ g₄ (grows_trans g₁ g₂ g₄ w₂ (grows_trans g₂ g₃ g₄ w₃ w₄)) object a) d))))
  augment_right line o (syntax.ToIndex at y i) x t one p q v =
      value_right z r 0 0 There Anything v _ _ (omega arith) (expression_right z r y p.0 v)
      (λ object g₁ w₁ a. value_right z r 0 0 There Anything g₁ _ _ (omega arith) (expression_right z r i p.1 g₁)
      (λ index g₂ w₂ b. value_right z r 0 0 There Anything g₂ _ _ (omega arith) (index_right g₂ at object index (there_more g₁ g₂ w₂ object a) b)
      (λ s g₃ w₃ c. value_right z r 0 0 There Anything g₃ _ _ (omega arith) (expression_right z r x q g₃)
      (λ u g₄ w₄ d. two_then g₄ line o s u _ t (there_more g₃ g₄ w₄ s c) d
      (λ k g₅ w₅ e.
      let up : Grows g₂ g₅ = grows_trans g₂ g₃ g₅ w₃ (grows_trans g₃ g₄ g₅ w₄ w₅) in
      set_index g₅ at object index k (there_more g₁ g₅ (grows_trans g₁ g₂ g₅ w₂ up) object a) (there_more g₂ g₅ up index b) e)))))
  augment_right line o (syntax.ToEach at ts) x t one p q v = absurd one
  augment_right line o (syntax.ToStarred at ts s us) x t one p q v = absurd one
  augment_right line o syntax.ToNothing x t one p q v = absurd one

  -- Deletions

  mutual
    pub delete_right : (t : syntax.Target) → LawfulDeletion (roster z) r t → (v : View) → RightBy z r r 0 Anything v (delete (source z) t)
    delete_right (syntax.ToName line home) p v = unbind_right z r v line home p.0 p.1
    delete_right (syntax.ToAttribute line x name) p v =
        value_right z r 0 0 There Anything v _ _ (omega arith) (expression_right z r x p v)
        (λ o g w a. anything z r 0 (OpGives op.DelAttr) g _ (operate_right z r line op.DelAttr (o ∷ text name ∷ []) g (λ u marks ok f. both _ _ (value_fits g o u marks f a) refl) (there_maybe g o a, ((tt, tt), tt)) tt))
    delete_right (syntax.ToIndex line x y) p v =
        value_right z r 0 0 There Anything v _ _ (omega arith) (expression_right z r x p.0 v)
        (λ o g w a. value_right z r 0 0 There Anything g _ _ (omega arith) (expression_right z r y p.1 g)
        (λ i g' w' b.
        let c : IsThere g' o = there_more g g' w' o a in
        anything z r 0 (OpGives op.DelIndex) g' _ (operate_right z r line op.DelIndex (o ∷ i ∷ []) g' (λ u marks ok f. both _ _ (value_fits g' o u marks f c) (both _ _ (value_fits g' i u marks f b) refl)) (there_maybe g' o c, (there_maybe g' i b, tt)) tt)))
    delete_right (syntax.ToEach line ts) p v = delete_each_right ts p v
    delete_right (syntax.ToStarred line before star behind) p v = absurd p
    delete_right syntax.ToNothing p v = absurd p

    delete_each_right : (ts : syntax.Targets) → LawfulDeletions (roster z) r ts → (v : View) → RightBy z r r 0 Anything v (delete_each (source z) ts)
    delete_each_right syntax.NoTarget p v = done_right z r 0 v
    delete_each_right (syntax.AlsoTo t ts) p v =
        value_right z r 0 0 Anything Anything v _ _ (omega arith) (delete_right t p.0 v) (λ u g w y. delete_each_right ts p.1 g)
