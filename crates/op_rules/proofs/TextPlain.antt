-- Ends of the rows on texts that name no objects.
use Rattle.std.proofs.Common.{ℕ, List, [], ◌∷◌, Option, Some, None, Bool, true, false, lit<}
use Rattle.std.specs.Prelude.{ℤ, pos, negsuc, codes, nat_eq, nat_le, nat_lt, ◌&&◌, option_map, slice_get, encode_utf8}
use Rattle.std.specs.List.{list_all, list_any}
use Rattle.std.specs.Ordering.{int_eq}
use Rattle.std.specs.Str.{bytes_eq, chars}
use Rattle.nu_text.specs.Characters.{characters}
use Rattle.nu_value.specs.declared.header.Header.{Header}
use Rattle.nu_value.specs.declared.object.Object.{Object}
use Rattle.nu_value.specs.declared.object.Object.TheVariants as object
use Rattle.nu_value.specs.declared.value.Value.{Value}
use Rattle.nu_value.specs.declared.value.Value.TheVariants as value
use Rattle.nu_value.specs.Same.{number_of}
use Rattle.nu_value.specs.View.{is_text}
use Rattle.op_forms.specs.declared.end.OpEnd.{OpEnd}
use Rattle.op_rules.specs.Items.{place_in, out_of_range}
use Rattle.op_rules.specs.NameRows.{value_or}
use Rattle.op_rules.specs.Numbers.{in_range}
use Rattle.op_rules.specs.Numerals.{is_numeral, numeral_value, signed, read_digits, read_signed, is_beyond, int_from, int_of, number_of_one, ord_of, character_of, chr_from, chr_of}
use Rattle.op_rules.specs.Quoting.{shown, shown_end, show_call, quote_of, quoted}
use Rattle.op_rules.specs.Slices.{are_bounds, step_of}
use Rattle.op_rules.specs.TextAccess.{item_at, text_index, text_slice, in_text}
use Rattle.op_rules.specs.TextCalls.{len_of, native_of_one, text_native}
use Rattle.op_rules.specs.TextMethods.{with_text, no_affix, with_affix, ascii_only, give_text, give_number, sized_text, joined_texts, join_after, replace_texts, replaced, strip_text, upper_text, lower_text, isdigit_text, method_of_none, method_of_two}
use Rattle.op_rules.specs.TextParts.{is_ascii, stripped, joined}
use Rattle.op_rules.proofs.Plain.{IsPlain, if_plain, computed_plain, sized_plain}

-- ---- characters

character_plain : (c : Option ℕ) (e : OpEnd) → IsPlain e → IsPlain (value_or (option_map (λ c. value.Str (encode_utf8 c)) c) e)
character_plain None e p = p
character_plain (Some c) e p = tt

item_plain : (text : List ℕ) (i : Option ℕ) → IsPlain (value_or (item_at text i) (out_of_range (codes "str")))
item_plain text None = (lit< tt, tt)
item_plain text (Some i) = character_plain (slice_get (chars text) i) _ (lit< tt, tt)

pub index_plain : (text : List ℕ) (i : Option ℤ) → IsPlain (text_index text i)
index_plain text None = (lit< tt, tt)
index_plain text (Some i) = item_plain text (place_in (characters text) i)

pub slice_plain : (text : List ℕ) (start stop step : Value) → IsPlain (text_slice text start stop step)
slice_plain text start stop step =
    if_plain (are_bounds start stop step) _ _ (if_plain (int_eq (step_of (number_of step)) (pos 0)) _ _ (lit< tt, tt) tt) (lit< tt, tt)

pub in_plain : (v : Value) (text : List ℕ) → IsPlain (in_text v text)
in_plain (value.Str part) text = tt
in_plain v text = (lit< tt, tt)

-- ---- shapes

pub with_text_plain : (f : List ℕ → OpEnd) (name : List ℕ) → ((s : List ℕ) → IsPlain (f s)) → (v : Value) → IsPlain (with_text f name v)
with_text_plain f name p (value.Str s) = p s
with_text_plain f name p v = (lit< tt, tt)

no_affix_plain : (name : List ℕ) (o : Option Object) → IsPlain (no_affix name o)
no_affix_plain name (Some (object.Tuple items)) = tt
no_affix_plain name o = (lit< tt, tt)

pub affix_plain : (h : List Object) (f : List ℕ → OpEnd) (name : List ℕ) → ((s : List ℕ) → IsPlain (f s)) → (v : Value) → IsPlain (with_affix h f name v)
affix_plain h f name p (value.Str s) = p s
affix_plain h f name p (value.Obj n) = no_affix_plain name (slice_get h n)
affix_plain h f name p v = (lit< tt, tt)

pub ascii_plain : (text : List ℕ) (e : OpEnd) → IsPlain e → IsPlain (ascii_only text e)
ascii_plain text e p = if_plain (is_ascii text) e _ p tt

sized_text_plain : (text : List ℕ) → IsPlain (sized_text text)
sized_text_plain text = sized_plain (characters text) (give_text text) tt

-- ---- methods

pub joined_plain : (text : List ℕ) (items : List Value) → IsPlain (joined_texts text items)
joined_plain text items = if_plain (list_all is_text items) _ _ (sized_text_plain (joined text items)) (lit< tt, tt)

pub join_after_plain : (text : List ℕ) (o : Option Object) → IsPlain (join_after text o)
join_after_plain text (Some (object.List items)) = joined_plain text items
join_after_plain text o = tt

replace_plain : (text : List ℕ) (a b : Value) → IsPlain (replace_texts text a b)
replace_plain text (value.Str part) (value.Str other) = sized_text_plain (replaced part other text)
replace_plain text (value.Str part) value.Unset = (lit< tt, tt)
replace_plain text (value.Str part) value.None = (lit< tt, tt)
replace_plain text (value.Str part) (value.Bool b) = (lit< tt, tt)
replace_plain text (value.Str part) (value.Int z) = (lit< tt, tt)
replace_plain text (value.Str part) (value.Obj n) = (lit< tt, tt)
replace_plain text a b = (lit< tt, tt)

pub none_plain : (text name : List ℕ) → IsPlain (method_of_none text name)
none_plain text name =
    if_plain (bytes_eq name (codes "strip")) (strip_text text) _ (ascii_plain text _ tt)
    (if_plain (bytes_eq name (codes "upper")) (upper_text text) _ (ascii_plain text _ tt)
    (if_plain (bytes_eq name (codes "lower")) (lower_text text) _ (ascii_plain text _ tt)
    (if_plain (bytes_eq name (codes "isdigit")) (isdigit_text text) _ (ascii_plain text _ tt) tt)))

pub two_texts_plain : (text name : List ℕ) (a b : Value) → IsPlain (method_of_two text name a b)
two_texts_plain text name a b = if_plain (bytes_eq name (codes "replace")) (replace_texts text a b) _ (replace_plain text a b) tt

-- ---- integers and characters from texts

digits_plain : (negative : Bool) (digits : List ℕ) → IsPlain (read_digits negative digits)
digits_plain negative digits =
    if_plain (is_numeral false digits) _ _ (computed_plain (in_range (signed negative (numeral_value 0 digits)))) (lit< tt, tt)

signed_plain : (text : List ℕ) → IsPlain (read_signed text)
signed_plain [] = digits_plain false []
signed_plain (b ∷ bs) =
    if_plain (nat_eq b 45) _ _ (digits_plain true bs) (if_plain (nat_eq b 43) _ _ (digits_plain false bs) (digits_plain false (b ∷ bs)))

int_from_plain : (v : Value) (n : Option ℤ) → IsPlain (int_from v n)
int_from_plain v (Some z) = tt
int_from_plain (value.Str text) None = if_plain (list_any is_beyond text) _ _ tt (signed_plain (stripped text))
int_from_plain v None = (lit< tt, tt)

one_character_plain : (cs : List ℕ) → IsPlain (number_of_one cs)
one_character_plain [] = (lit< tt, tt)
one_character_plain (c ∷ []) = tt
one_character_plain (c ∷ d ∷ cs) = (lit< tt, tt)

ord_plain : (v : Value) → IsPlain (ord_of v)
ord_plain (value.Str text) = one_character_plain (chars text)
ord_plain v = (lit< tt, tt)

character_of_plain : (z : ℤ) → IsPlain (character_of z)
character_of_plain (negsuc n) = (lit< tt, tt)
character_of_plain (pos n) = if_plain (nat_lt 1114111 n) _ _ (lit< tt, tt) (if_plain (nat_le 55296 n && nat_le n 57343) _ _ tt tt)

chr_from_plain : (n : Option ℤ) → IsPlain (chr_from n)
chr_from_plain None = (lit< tt, tt)
chr_from_plain (Some z) = character_of_plain z

-- ---- what `repr` shows

quote_plain : (v : Value) → IsPlain (quote_of v)
quote_plain (value.Str text) = sized_text_plain (quoted text)
quote_plain v = tt

shown_plain : (t : Option (List ℕ)) → IsPlain (shown_end t)
shown_plain None = tt
shown_plain (Some t) = tt

pub show_plain : (headers : List Header) (h : List Object) (args : List Value) → IsPlain (show_call headers h args)
show_plain headers h [] = tt
show_plain headers h (v ∷ []) = shown_plain (shown headers h v)
show_plain headers h (v ∷ w ∷ vs) = tt

-- ---- natives

len_plain : (h : List Object) (v : Value) → IsPlain (len_of h v)
len_plain h (value.Str text) = tt
len_plain h v = (lit< tt, tt)

native_of_one_plain : (h : List Object) (name : List ℕ) (v : Value) → IsPlain (native_of_one h name v)
native_of_one_plain h name v =
    if_plain (bytes_eq name (codes "len")) (len_of h v) _ (len_plain h v)
    (if_plain (bytes_eq name (codes "int")) (int_of v) _ (int_from_plain v (number_of v))
    (if_plain (bytes_eq name (codes "ord")) (ord_of v) _ (ord_plain v)
    (if_plain (bytes_eq name (codes "chr")) (chr_of v) _ (chr_from_plain (number_of v))
    (if_plain (bytes_eq name (codes "_nu_quote")) (quote_of v) _ (quote_plain v) tt))))

pub native_plain : (h : List Object) (name : List ℕ) (args : List Value) → IsPlain (text_native h name args)
native_plain h name [] = if_plain (bytes_eq name (codes "int")) (give_number (pos 0)) _ tt tt
native_plain h name (v ∷ []) = native_of_one_plain h name v
native_plain h name (v ∷ w ∷ vs) = tt
