-- Exceptions are made, raised and matched with nothing but what is given, what is there and what is made.
use Rattle.std.proofs.Common.{ℕ, Option, Some, None, Bool, true, false, length, lit<, inr}
use Rattle.std.specs.Prelude.{codes, if◌then◌else◌, slice_get}
use Rattle.std.specs.List.{list_all, list_any}
use Rattle.nu_value.specs.declared.object.Object.{Object}
use Rattle.nu_value.specs.declared.object.Object.TheVariants as object
use Rattle.nu_value.specs.declared.value.Value.{Value}
use Rattle.nu_value.specs.declared.value.Value.TheVariants as value
use Rattle.nu_value.specs.Classes.{is_under, found_in}
use Rattle.nu_value.specs.Natives.{baseexception_number}
use Rattle.nu_value.specs.Same.{object_of}
use Rattle.op_forms.specs.declared.world.World.{World}
use Rattle.op_forms.specs.Doing.{ends, makes}
use Rattle.op_forms.specs.Parts.{PartsOf, ValueOf}
use Rattle.op_forms.specs.Right.{Claim, Known, Closed, NewOf, EndOf, Right}
use Rattle.op_forms.specs.Sound.{AClass, AFunction, IsA, LinksIn}
use Rattle.op_rules.specs.declared.special.Init.{Init}
use Rattle.op_rules.specs.declared.special.Init.TheVariants as init
use Rattle.op_rules.specs.Comparisons.{give_bool}
use Rattle.op_rules.specs.Exceptions.{bare, is_plain_init, init_as, init_in, exception_asking, exception_by, exception_of, no_exception, exc_on, exc_row, raise_on, raise_row, no_catching, classes_in, match_row, trace_on, trace_row}
use Rattle.op_rules.specs.Specials.{found_object}
use Rattle.op_rules.specs.Subclasses.{class_of, is_exception_class, is_under_value}
use Rattle.op_rules.proofs.Specials.{found_known}
use Rattle.op_rules.proofs.Usual.{fails, failed, idle, given_right, made_right, if_right, if_end}

module _ (c : Claim) (w : World) (k : Closed c w) where
  -- ---- an exception class is called without arguments

  bare_known : (class : ℕ) → IsA w.heap class AClass → PartsOf c.of (bare class) × LinksIn (length w.codes) w.heap (length w.heap) (bare class) × NewOf c w (bare class)
  bare_known class a = ((k.classes class a, tt, tt, tt), (a, tt, tt), tt)

  bare_right : (class : ℕ) → IsA w.heap class AClass → Right c w (makes w.heap (bare class))
  bare_right class a = made_right c w k (bare class) (bare_known class a)

  asking_right : (class f : ℕ) → IsA w.heap class AClass → IsA w.heap f AFunction → c.of (value.Obj f) → Right c w (exception_asking w.heap class f)
  asking_right class f a b q =
      λ news.
      record {
        end = record { function = b; known = k.asked f q; args = (news.0, tt); names = tt; distinct = tt; after = news.0 };
        set = tt;
        made = (bare_known class a, tt);
      }

  -- an `__init__` that is a function is one of which something is claimed
  abbrev InitOf : Init → Type 0
  InitOf (init.Function f) = c.of (value.Obj f) × IsA w.heap f AFunction
  InitOf i = Unit {0}

  plain_init : (b : Bool) → InitOf (if b then init.Plain else init.Other)
  plain_init true = tt
  plain_init false = tt

  init_at : (f : ℕ) (o : Option Object) → Known c w f o → c.of (value.Obj f) → InitOf (init_as (Some (value.Obj f)) o)
  init_at f (Some (object.Function code defaults keywords cells)) p q = (q, p.sort)
  init_at f (Some (object.Builtin name receiver)) p q = plain_init (is_plain_init name receiver)
  init_at f o p q = tt

  init_found : (v : Option Value) → ValueOf c.of v → InitOf (init_as v (found_object w.heap v))
  init_found None q = tt
  init_found (Some (value.Obj f)) q = init_at f (slice_get w.heap f) (k.objects f) q
  init_found (Some v) q = tt

  init_known : (class : ℕ) → InitOf (init_in w.heap class)
  init_known class = init_found (found_in w.heap class (codes "__init__")) (found_known c w k class (codes "__init__"))

  made_right_by : (class : ℕ) (i : Init) → IsA w.heap class AClass → InitOf i → Right c w (exception_by w.heap class i)
  made_right_by class init.Plain a p = bare_right class a
  made_right_by class (init.Function f) a p = asking_right class f a p.1 p.0
  made_right_by class init.Other a p = idle c w k

  exception_right : (class : ℕ) → IsA w.heap class AClass → Right c w (exception_of w.heap class)
  exception_right class a = made_right_by class (init_in w.heap class) a (init_known class)

  -- ---- raising

  exc_at : (n : ℕ) (o : Option Object) → Known c w n o → c.of (value.Obj n) → Right c w (exc_on w.heap n o)
  exc_at n (Some (object.Exception class args entries fields cause)) p q = given_right c w k (value.Obj n) q
  exc_at n (Some (object.Class name base own native)) p q =
      if_right c w k (is_under w.heap (Some n) baseexception_number) (exception_of w.heap n) (ends no_exception) (exception_right n p.sort) (failed c w k 35 _ (lit< tt))
  exc_at n o p q = failed c w k 35 _ (lit< tt)

  pub exc_right : (x : Value) → c.of x → Right c w (exc_row w.heap x)
  exc_right (value.Obj n) q = exc_at n (slice_get w.heap n) (k.objects n) q
  exc_right x q = failed c w k 35 _ (lit< tt)

  raise_at : (n : ℕ) (o : Option Object) → Known c w n o → EndOf c w (raise_on n o)
  raise_at n (Some (object.Exception class args entries fields cause)) p = (inr p.sort, tt)
  raise_at n o p = tt

  pub raise_end : (x : Value) → EndOf c w (raise_row w.heap x)
  raise_end (value.Obj n) = raise_at n (slice_get w.heap n) (k.objects n)
  raise_end x = tt

  -- ---- matching

  pub match_end : (e x : Value) → EndOf c w (match_row w.heap e x)
  match_end e x =
      if_end c w k (list_all (is_exception_class w.heap) (classes_in x (object_of w.heap x)))
      (give_bool (list_any (is_under_value w.heap (class_of w.heap e)) (classes_in x (object_of w.heap x))))
      no_catching
      (k.plain (value.Bool (list_any (is_under_value w.heap (class_of w.heap e)) (classes_in x (object_of w.heap x)))) tt)
      (fails c w k 35 _ (lit< tt))

  trace_at : (n : ℕ) (o : Option Object) → Known c w n o → c.of (value.Obj n) → Right c w (trace_on w.heap n o)
  trace_at n (Some (object.Exception class args entries fields cause)) p q = made_right c w k (object.Trace n) (q, p.sort, tt)
  trace_at n o p q = idle c w k

  pub trace_right : (x : Value) → c.of x → Right c w (trace_row w.heap x)
  trace_right (value.Obj n) q = trace_at n (slice_get w.heap n) (k.objects n) q
  trace_right x q = idle c w k
