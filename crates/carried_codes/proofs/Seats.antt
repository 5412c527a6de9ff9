-- Names, where they are among the temporaries of a code.
use Rattle.std.proofs.Common.{◌≡◌, ℕ, ◌+◌, ◌≤◌, refl, subst}
use Rattle.code_forms.specs.declared.operand.Operand.{Operand}
use Rattle.code_forms.specs.declared.operand.Operand.TheVariants as operand
use Rattle.node_tree.specs.Blocks.{alone}
use Rattle.py_meaning.specs.Syntax as syntax
use Rattle.carries_base.specs.Frames.{Homes, HaveRoom, behind}
use Rattle.carries_base.specs.Carries.{CarriesExpression, CarriesTarget}
use Rattle.carries_names.specs.Names.{HasPlace, CarriesDeletion}
use Rattle.carries_names.specs.Names as names
use Rattle.carries_names.proofs.Names.{read_carried, store_carried, delete_carried}
use Rattle.carried_codes.specs.Seats.{seat, reads, stores, unbinds}

module _ (h : Homes) (to line : ℕ) where
  pub reads_are : (home : syntax.Home) → names.reads h to line home ≡ reads to line (seat h home)
  reads_are (syntax.Local place name) = refl
  reads_are (syntax.Own place name) = refl
  reads_are (syntax.Free place name) = refl
  reads_are (syntax.Module name) = refl
  reads_are (syntax.InClass name) = refl

  pub stores_are : (home : syntax.Home) (o : Operand) → names.stores h to line home o ≡ stores to line (seat h home) o
  stores_are (syntax.Local place name) o = refl
  stores_are (syntax.Own place name) o = refl
  stores_are (syntax.Free place name) o = refl
  stores_are (syntax.Module name) o = refl
  stores_are (syntax.InClass name) o = refl

  pub unbinds_are : (home : syntax.Home) → names.unbinds h to line home ≡ unbinds to line (seat h home)
  unbinds_are (syntax.Local place name) = refl
  unbinds_are (syntax.Own place name) = refl
  unbinds_are (syntax.Free place name) = refl
  unbinds_are (syntax.Module name) = refl
  unbinds_are (syntax.InClass name) = refl

  module _ (low : ℕ) (home : syntax.Home) (room : HaveRoom h) (has : HasPlace h home) (st : behind h ≤ low) (le : low ≤ to) where
    pub read_seat : CarriesExpression h low (to + 1) (syntax.Name line home) (alone (reads to line (seat h home))) (operand.Temp to)
    read_seat = subst (λ f. CarriesExpression h low (to + 1) (syntax.Name line home) (alone f) (operand.Temp to)) (reads_are home) (read_carried h low to line home room has st le)

    pub store_seat : (o : Operand) → CarriesTarget h low (to + 1) o (syntax.ToName line home) (alone (stores to line (seat h home) o))
    store_seat o = subst (λ f. CarriesTarget h low (to + 1) o (syntax.ToName line home) (alone f)) (stores_are home o) (store_carried h low to line home o room has st le)

    pub delete_seat : CarriesDeletion h low (to + 1) (syntax.ToName line home) (unbinds to line (seat h home))
    delete_seat = subst (λ b. CarriesDeletion h low (to + 1) (syntax.ToName line home) b) (unbinds_are home) (delete_carried h low to line home room has st le)
