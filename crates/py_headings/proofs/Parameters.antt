-- Parameters with names, in order, make a heading.
use Rattle.std.proofs.Common.{◌≡◌, ℕ, Bool, true, false, ◌&&◌, ◌||◌, ◌==◌, nat_le, if◌then◌else◌, List, [], ◌∷◌, ◌++◌, map, codes, Option, Some, None, refl, sym, ap, ◌∙◌, subst}
use Rattle.std.specs.List.{AllByRecursion, list_any}
use Rattle.nu_value.specs.declared.header.ParamKind.{ParamKind}
use Rattle.nu_value.specs.declared.header.ParamKind.TheVariants as kind
use Rattle.py_ast.specs.declared.expr.Expr.{Expr}
use Rattle.py_ast.specs.declared.expr.Param.{Param}
use Rattle.py_ast.specs.declared.expr.Param.TheVariants as param
use Rattle.py_scopes.specs.Names.{stem, is_private, mangled}
use Rattle.py_scopes.specs.Parts.{param_of}
use Rattle.py_meaning.specs.Resolved.{Context, header, shape, kinds, is_slash, name_in}
use Rattle.c_meaning.specs.Written.{has, in_order, rank, rank_behind}
use Rattle.generator_cut.specs.Writable.{IsNamed, IsHeading}
use Rattle.py_headings.specs.Laws.{IsName, MayBeName, HasName, ParametersMakeHeadings}
use Rattle.py_headings.proofs.Order.{ordered}

-- Names in a class

or_false : (a b : Bool) → (a || b) ≡ false → (a ≡ false) × (b ≡ false)
or_false false b e = (refl, e)
or_false true b e = cc

false_or : (a b : Bool) → a ≡ false → b ≡ false → (a || b) ≡ false
false_or false b p q = q
false_or true b p q = cc

none_in_both : (xs ys : List ℕ) → has xs 32 ≡ false → has ys 32 ≡ false → has (xs ++ ys) 32 ≡ false
none_in_both [] ys p q = q
none_in_both (x ∷ xs) ys p q = let r = or_false _ _ p in false_or _ _ r.0 (none_in_both xs ys r.1 q)

stem_by : (b : Bool) (c : ℕ) (cs : List ℕ) → (c == 95) ≡ b → has (c ∷ cs) 32 ≡ false → (has cs 32 ≡ false → has (stem cs) 32 ≡ false) → has (stem (c ∷ cs)) 32 ≡ false
stem_by true c cs e p r = subst (λ b. has (if b then stem cs else c ∷ cs) 32 ≡ false) (sym e) (r (or_false _ _ p).1)
stem_by false c cs e p r = subst (λ b. has (if b then stem cs else c ∷ cs) 32 ≡ false) (sym e) p

stem_fits : (class : List ℕ) → has class 32 ≡ false → has (stem class) 32 ≡ false
stem_fits [] p = refl
stem_fits (c ∷ cs) p = stem_by (c == 95) c cs refl p (stem_fits cs)

private_name : (class x : List ℕ) → IsName class → IsName x → IsName (codes "_" ++ stem class ++ x)
private_name class x c n = record {
  some = λ e. cc;
  no_space = none_in_both (codes "_" ++ stem class) x (none_in_both (codes "_") (stem class) refl (stem_fits class c.no_space)) n.no_space;
}

mangled_by : (b : Bool) (class x : List ℕ) → IsName class → IsName x → IsName (if b then codes "_" ++ stem class ++ x else x)
mangled_by true class x c n = private_name class x c n
mangled_by false class x c n = n

mangled_name : (class : Option (List ℕ)) (x : List ℕ) → MayBeName class → IsName x → IsName (mangled class x)
mangled_name None x c n = n
mangled_name (Some class) x c n = mangled_by (is_private class x) class x c n

-- Kinds

module _ {A : Type 0} (f : Expr → A) where
  kinds_same : (k : ParamKind) (ps : List (Param Expr)) → kinds k (map (param_of f) ps) ≡ kinds k ps
  kinds_same k [] = refl
  kinds_same k (param.Named line name default ∷ ps) = ap (λ r. (k, name) ∷ r) (kinds_same k ps)
  kinds_same k (param.Slash line ∷ ps) = kinds_same kind.Plain ps
  kinds_same k (param.Star line (Some name) ∷ ps) = ap (λ r. (kind.Star, name) ∷ r) (kinds_same kind.Key ps)
  kinds_same k (param.Star line None ∷ ps) = kinds_same kind.Key ps
  kinds_same k (param.DoubleStar line name ∷ ps) = ap (λ r. (kind.Double, name) ∷ r) (kinds_same k ps)

  slash_same : (ps : List (Param Expr)) → list_any is_slash (map (param_of f) ps) ≡ list_any is_slash ps
  slash_same [] = refl
  slash_same (param.Named line name default ∷ ps) = slash_same ps
  slash_same (param.Slash line ∷ ps) = refl
  slash_same (param.Star line name ∷ ps) = slash_same ps
  slash_same (param.DoubleStar line name ∷ ps) = slash_same ps

kinds_named : (k : ParamKind) (ps : List (Param Expr)) → AllByRecursion HasName ps → AllByRecursion (λ (p : ParamKind × List ℕ). IsName p.1) (kinds k ps)
kinds_named k [] n = tt
kinds_named k (param.Named line name default ∷ ps) n = (n.0, kinds_named k ps n.1)
kinds_named k (param.Slash line ∷ ps) n = kinds_named kind.Plain ps n.1
kinds_named k (param.Star line (Some name) ∷ ps) n = (n.0, kinds_named kind.Key ps n.1)
kinds_named k (param.Star line None ∷ ps) n = kinds_named kind.Key ps n.1
kinds_named k (param.DoubleStar line name ∷ ps) n = (n.0, kinds_named k ps n.1)

abbrev renamed : Context → ParamKind × List ℕ → ParamKind × List ℕ
renamed c p = (p.0, name_in c p.1)

all_renamed : (c : Context) (ps : List (ParamKind × List ℕ)) → MayBeName c.class → AllByRecursion (λ (p : ParamKind × List ℕ). IsName p.1) ps → AllByRecursion IsNamed (map (renamed c) ps)
all_renamed c [] m n = tt
all_renamed c (p ∷ ps) m n = let r = mangled_name c.class p.1 m n.0 in (record { some = r.some; no_space = r.no_space }, all_renamed c ps m n.1)

order_same : (c : Context) (least : ℕ) (ps : List (ParamKind × List ℕ)) → in_order least (map (renamed c) ps) ≡ in_order least ps
order_same c least [] = refl
order_same c least (p ∷ ps) = ap (λ b. nat_le least (rank p.0) && b) (order_same c (rank_behind p.0) ps)

abbrev its_kinds : List (Param Expr) → List (ParamKind × List ℕ)
its_kinds ps = kinds (if list_any is_slash ps then kind.Only else kind.Plain) ps

shape_is : {A : Type 0} (f : Expr → A) (c : Context) (ps : List (Param Expr)) → shape c (map (param_of f) ps) ≡ map (renamed c) (its_kinds ps)
shape_is f c ps =
    ap (λ b. map (renamed c) (kinds (if b then kind.Only else kind.Plain) (map (param_of f) ps))) (slash_same f ps)
    ∙ ap (map (renamed c)) (kinds_same f (if list_any is_slash ps then kind.Only else kind.Plain) ps)

pub make_heading : ParametersMakeHeadings
make_heading f c scope ps class names order line =
    let k = its_kinds ps in
    subst (λ params. IsHeading (header (Some scope) params)) (sym (shape_is f c ps))
    (record { params = all_renamed c k class (kinds_named _ ps names); order = order_same c 0 k ∙ ordered ps order; from_one = line })
