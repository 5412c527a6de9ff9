-- The methods of texts, and the natives on texts, use only what they are given, what they find there and what they make.
use Rattle.std.proofs.Common.{ℕ, List, [], ◌∷◌, Option, Some, length, lit<}
use Rattle.std.specs.Prelude.{codes, nat_le, ◌==◌}
use Rattle.std.specs.Str.{bytes_eq}
use Rattle.nu_value.specs.declared.object.Object.{Object}
use Rattle.nu_value.specs.declared.object.Object.TheVariants as object
use Rattle.nu_value.specs.declared.value.Value.{Value}
use Rattle.nu_value.specs.declared.value.Value.TheVariants as value
use Rattle.nu_value.specs.Names.{NameList}
use Rattle.nu_value.specs.Same.{object_of}
use Rattle.op_forms.specs.declared.world.World.{World}
use Rattle.op_forms.specs.Parts.{AllOf, NamesOf, OrUnset}
use Rattle.op_forms.specs.Right.{Claim, Closed, EndOf, Right}
use Rattle.op_forms.specs.Sound.{AreNamesDistinct}
use Rattle.op_rules.specs.TextCalls.{called_on, text_call, text_builtin}
use Rattle.op_rules.specs.TextMethods.{with_affix, with_text, join_on, join_method, text_list, split_words, split_at, split_by, startswith_text, endswith_text, find_text, count_text, method_of_one, text_method}
use Rattle.op_rules.specs.TextParts.{pieces, text_values, is_ascii, words}
use Rattle.op_rules.specs.TextRows.{size_limit}
use Rattle.op_rules.proofs.Asks.{asks_right}
use Rattle.op_rules.proofs.Plain.{plain_end, plain_right}
use Rattle.op_rules.proofs.TextPlain.{with_text_plain, affix_plain, joined_plain, none_plain, two_texts_plain, show_plain, native_plain}
use Rattle.op_rules.proofs.Usual.{ended, failed, idle, made_right, if_right, if_end}

module _ (c : Claim) (w : World) (k : Closed c w) where
  -- ---- `join`

  join_on_end : (text : List ℕ) (v : Value) (o : Option Object) → c.of v → EndOf c w (join_on w.heap text v o)
  join_on_end text v (Some (object.List items)) p = plain_end c w k _ (joined_plain text items)
  join_on_end text v (Some (object.Tuple items)) p = plain_end c w k _ (joined_plain text items)
  join_on_end text v o p = asks_right c w k _ (v ∷ []) [] _ (p, tt) tt tt tt

  join_end : (text : List ℕ) (v : Value) → c.of v → EndOf c w (join_method w.heap text v)
  join_end text v q = join_on_end text v (object_of w.heap v) q

  -- ---- `split`

  texts_claimed : (texts : List (List ℕ)) → AllOf c.of (text_values texts)
  texts_claimed [] = tt
  texts_claimed (t ∷ ts) = (k.plain (value.Str t) tt, texts_claimed ts)

  list_right : (texts : List (List ℕ)) → Right c w (text_list w.heap (text_values texts))
  list_right texts =
      if_right c w k (nat_le (length (text_values texts)) size_limit) _ _ (made_right c w k (object.List (text_values texts)) (texts_claimed texts, tt, tt))
      (ended c w k _ tt)

  words_right : (text : List ℕ) → Right c w (split_words w.heap text)
  words_right text = if_right c w k (is_ascii text) _ _ (list_right (words text)) (idle c w k)

  split_at_right : (text part : List ℕ) → Right c w (split_at w.heap text part)
  split_at_right text part = if_right c w k (length part == 0) _ _ (failed c w k 36 _ (lit< tt)) (list_right (pieces part text))

  split_right : (text : List ℕ) (v : Value) → Right c w (split_by w.heap text v)
  split_right text value.None = words_right text
  split_right text (value.Str part) = split_at_right text part
  split_right text v = failed c w k 35 _ (lit< tt)

  -- ---- the methods

  one_end : (text name : List ℕ) (v : Value) → c.of v → EndOf c w (method_of_one w.heap text name v)
  one_end text name v q =
      if_end c w k (bytes_eq name (codes "join")) (join_method w.heap text v) _ (join_end text v q)
      (if_end c w k (bytes_eq name (codes "startswith")) (with_affix w.heap (startswith_text text) name v) _ (plain_end c w k _ (affix_plain w.heap (startswith_text text) name (λ s. tt) v))
      (if_end c w k (bytes_eq name (codes "endswith")) (with_affix w.heap (endswith_text text) name v) _ (plain_end c w k _ (affix_plain w.heap (endswith_text text) name (λ s. tt) v))
      (if_end c w k (bytes_eq name (codes "find")) (with_text (find_text text) name v) _ (plain_end c w k _ (with_text_plain (find_text text) name (λ s. tt) v))
      (if_end c w k (bytes_eq name (codes "count")) (with_text (count_text text) name v) _ (plain_end c w k _ (with_text_plain (count_text text) name (λ s. tt) v)) tt))))

  method_right : (text name : List ℕ) (args : List Value) → AllOf c.of args → Right c w (text_method w.heap text name args)
  method_right text name [] q =
      if_right c w k (bytes_eq name (codes "split")) (split_words w.heap text) _ (words_right text) (plain_right c w k _ (none_plain text name))
  method_right text name (v ∷ []) q =
      if_right c w k (bytes_eq name (codes "split")) (split_by w.heap text v) _ (split_right text v) (ended c w k _ (one_end text name v q.0))
  method_right text name (a ∷ b ∷ []) q = plain_right c w k _ (two_texts_plain text name a b)
  method_right text name (a ∷ b ∷ d ∷ vs) q = idle c w k

  called_right : (name : List ℕ) (receiver : Value) (args : List Value) → AllOf c.of args → Right c w (called_on w.heap name receiver args)
  called_right name (value.Str text) args q = method_right text name args q
  called_right name receiver args q = plain_right c w k _ (native_plain w.heap name args)

  pub text_call_right : (name : List ℕ) (receiver : Value) (args : List Value) (names : NameList) → OrUnset c.of receiver → AllOf c.of args → NamesOf c.of names → AreNamesDistinct names
      → Right c w (text_call w.heap name receiver args names)
  text_call_right name receiver args [] p q r d = called_right name receiver args q
  text_call_right name receiver args (n ∷ names) p q r d = idle c w k

  pub text_builtin_right : (name : List ℕ) (receiver : Value) (args : List Value) (names : NameList) → OrUnset c.of receiver → AllOf c.of args → NamesOf c.of names → AreNamesDistinct names
      → Right c w (text_builtin w.codes w.heap name receiver args names)
  text_builtin_right name value.Unset args [] p q r d =
      if_right c w k (bytes_eq name (codes "_nu_text")) _ _ (plain_right c w k _ (show_plain w.codes w.heap args)) (text_call_right name value.Unset args [] p q r d)
  text_builtin_right name receiver args names p q r d = text_call_right name receiver args names p q r d
