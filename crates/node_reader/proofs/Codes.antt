-- Codes and the first lines of texts: no others stand where they do.
use Rattle.std.proofs.Common.{◌≡◌, ℕ, ◌^◌, List, [], ◌∷◌, ◌++◌, get_or, drop, refl, sym, ◌∙◌, ap, append_assoc, arith, decimal, Bool, true, false}
use Rattle.std.specs.Prelude.{codes}
use Rattle.nu_text.specs.Pieces.{joined, before}
use Rattle.nu_text.specs.Strings.{string_text}
use Rattle.nu_text.proofs.Pieces.{before_is}
use Rattle.nu_text.proofs.Strings.{string_both}
use Rattle.nu_value.specs.declared.header.ParamKind.{ParamKind}
use Rattle.nu_value.specs.declared.header.Header as header
use Rattle.c_meaning.specs.Text.{params_text}
use Rattle.c_reader.specs.Pieces.{StringStands, NumberStands}
use Rattle.c_reader.specs.Params.{ParamsStand}
use Rattle.c_reader.proofs.Numbers.{same_rest, number_both}
use Rattle.c_reader.proofs.Shapes.{params_both}
use Rattle.node_tree.specs.Tree.{block}
use Rattle.node_tree.specs.declared.script.NodeCode as code
use Rattle.node_text.specs.Text.{kind_text, header_pieces, block_text}
use Rattle.node_reader.specs.Nodes.{BlockStands}
use Rattle.node_reader.specs.Codes.{FrontStands, KindStands, BackStands, HeaderStands, CodeStands}
use Rattle.node_reader.proofs.Nodes.{block_both}
use Rattle.node_reader.proofs.Trees.{block_same}

-- the number in front of the scope
abbrev pub Opening : ℕ → List ℕ → List ℕ → Type 0
Opening n text rest = text ≡ before (codes "code " ∷ decimal n ∷ codes " " ∷ []) rest

abbrev front_rest : List ℕ → List (ParamKind × List ℕ) → List ℕ → List ℕ
front_rest scope params rest = string_text scope ++ (codes " " ++ (string_text (params_text params) ++ (codes " " ++ rest)))

pub no_word : (n : ℕ) (text : List ℕ) → ((rest : List ℕ) → text ≡ codes "code " ++ rest → ⊥) → (scope : List ℕ) (params : List (ParamKind × List ℕ)) (rest : List ℕ) → FrontStands n text scope params rest → ⊥
no_word n text none scope params rest s = none (decimal n ++ (codes " " ++ front_rest scope params rest)) s.spelled

pub no_number : (n : ℕ) (text behind : List ℕ) → text ≡ codes "code " ++ behind → ((rest : List ℕ) → behind ≡ before (decimal n ∷ codes " " ∷ []) rest → ⊥) → (scope : List ℕ) (params : List (ParamKind × List ℕ)) (rest : List ℕ) → FrontStands n text scope params rest → ⊥
no_number n text behind e none scope params rest s = none (front_rest scope params rest) (ap (drop 5) (sym e ∙ s.spelled))

pub opening_of : (n : ℕ) (text behind rest : List ℕ) → text ≡ codes "code " ++ behind → behind ≡ before (decimal n ∷ codes " " ∷ []) rest → Opening n text rest
opening_of n text behind rest e f = e ∙ ap (λ l. codes "code " ++ l) f

opening_both : (n : ℕ) (text x y : List ℕ) → Opening n text x → Opening n text y → x ≡ y
opening_both n text x y s t = ap (drop 1) (same_rest (decimal n) (codes " " ++ x) (codes " " ++ y) (ap (drop 5) (sym s ∙ t)))

pub front_scope : (n : ℕ) (text behind scope : List ℕ) (params : List (ParamKind × List ℕ)) (rest : List ℕ) → Opening n text behind → FrontStands n text scope params rest → StringStands behind scope (codes " " ++ (string_text (params_text params) ++ (codes " " ++ rest)))
front_scope n text behind scope params rest c s = record { utf8 = s.scope_is; spelled = opening_both n text behind (front_rest scope params rest) c s.spelled }

pub front_space : (n : ℕ) (text behind after read scope : List ℕ) (params : List (ParamKind × List ℕ)) (rest : List ℕ) → Opening n text behind → StringStands behind read after → FrontStands n text scope params rest
    → (read ≡ scope) × (after ≡ codes " " ++ (string_text (params_text params) ++ (codes " " ++ rest)))
front_space n text behind after read scope params rest c r s =
    let there = front_scope n text behind scope params rest c s in
    string_both read scope after (codes " " ++ (string_text (params_text params) ++ (codes " " ++ rest))) (sym r.spelled ∙ there.spelled)

pub front_params : (n : ℕ) (text behind after inner read scope : List ℕ) (params : List (ParamKind × List ℕ)) (rest : List ℕ) → Opening n text behind → StringStands behind read after → after ≡ codes " " ++ inner → FrontStands n text scope params rest
    → ParamsStand inner params (codes " " ++ rest)
front_params n text behind after inner read scope params rest c r e s = record {
  each = s.each;
  order = s.order;
  spelled = ap (drop 1) (sym e ∙ (front_space n text behind after read scope params rest c r s).1);
}

pub front_last : (n : ℕ) (text behind after inner last read scope : List ℕ) (given params : List (ParamKind × List ℕ)) (rest : List ℕ) → Opening n text behind → StringStands behind read after → after ≡ codes " " ++ inner → ParamsStand inner given last
    → FrontStands n text scope params rest → (given ≡ params) × (last ≡ codes " " ++ rest)
front_last n text behind after inner last read scope given params rest c r e p s = params_both inner given params last (codes " " ++ rest) p (front_params n text behind after inner read scope params rest c r e s)

pub front_of : (n : ℕ) (text behind after inner last scope : List ℕ) (params : List (ParamKind × List ℕ)) (rest : List ℕ) → Opening n text behind → StringStands behind scope after → after ≡ codes " " ++ inner → ParamsStand inner params last → last ≡ codes " " ++ rest
    → FrontStands n text scope params rest
front_of n text behind after inner last scope params rest c r e p l = record {
  scope_is = r.utf8;
  each = p.each;
  order = p.order;
  spelled = c ∙ ap (before (codes "code " ∷ decimal n ∷ codes " " ∷ [])) (r.spelled ∙ ap (λ t. string_text scope ++ t) (e ∙ ap (λ t. codes " " ++ t) (p.spelled ∙ ap (λ t. string_text (params_text params) ++ t) l)));
}

front_both : (n : ℕ) (text scope scope' : List ℕ) (params params' : List (ParamKind × List ℕ)) (x y : List ℕ) → FrontStands n text scope params x → FrontStands n text scope' params' y → (scope ≡ scope') × (params ≡ params') × (x ≡ y)
front_both n text scope scope' params params' x y s t =
    let inner = string_text (params_text params) ++ (codes " " ++ x) in
    let behind = string_text scope ++ (codes " " ++ inner) in
    let r : StringStands behind scope (codes " " ++ inner) = record { utf8 = s.scope_is; spelled = refl } in
    let p : ParamsStand inner params (codes " " ++ x) = record { each = s.each; order = s.order; spelled = refl } in
    let last = front_last n text behind (codes " " ++ inner) inner (codes " " ++ x) scope scope' params params' y s.spelled r refl p t in
    ((front_space n text behind (codes " " ++ inner) scope scope' params' y s.spelled r t).0, last.0, ap (drop 1) last.1)

-- the rest of the first line
kind_both : (k l : Bool) (x y : List ℕ) → kind_text k ++ x ≡ kind_text l ++ y → (k ≡ l) × (x ≡ y)
kind_both false false x y e = (refl, ap (drop 5) e)
kind_both false true x y e = let bad : 112 ≡ 103 = ap (λ t. get_or t 0 0) e in absurd (omega (arith, bad))
kind_both true false x y e = let bad : 103 ≡ 112 = ap (λ t. get_or t 0 0) e in absurd (omega (arith, bad))
kind_both true true x y e = (refl, ap (drop 9) e)

pub no_kind : (text : List ℕ) → ((rest : List ℕ) → text ≡ codes "plain " ++ rest → ⊥) → ((rest : List ℕ) → text ≡ codes "generator " ++ rest → ⊥) → (generator : Bool) (rest : List ℕ) → KindStands text generator rest → ⊥
no_kind text none other false rest s = none rest s.spelled
no_kind text none other true rest s = other rest s.spelled

pub back_kind : (text : List ℕ) (generator : Bool) (free line : ℕ) (rest : List ℕ) → BackStands text generator free line rest → KindStands text generator (decimal free ++ (codes " " ++ (decimal line ++ (codes "\n" ++ rest))))
back_kind text generator free line rest s = record { spelled = s.spelled }

pub no_back : (text : List ℕ) → ((generator : Bool) (rest : List ℕ) → KindStands text generator rest → ⊥) → (generator : Bool) (free line : ℕ) (rest : List ℕ) → BackStands text generator free line rest → ⊥
no_back text none generator free line rest s = none generator (decimal free ++ (codes " " ++ (decimal line ++ (codes "\n" ++ rest)))) (back_kind text generator free line rest s)

pub back_free : (text behind : List ℕ) (k generator : Bool) (free line : ℕ) (rest : List ℕ) → KindStands text k behind → BackStands text generator free line rest → (k ≡ generator) × NumberStands (2 ^ 64) (codes " ") behind free (decimal line ++ (codes "\n" ++ rest))
back_free text behind k generator free line rest e s =
    let both = kind_both k generator (codes " " ++ behind) (codes " " ++ (decimal free ++ (codes " " ++ (decimal line ++ (codes "\n" ++ rest))))) (sym e.spelled ∙ s.spelled) in
    (both.0, record { fits = s.free_is; spelled = ap (drop 1) both.1 })

pub back_line : (text behind after : List ℕ) (k generator : Bool) (read free line : ℕ) (rest : List ℕ) → KindStands text k behind → NumberStands (2 ^ 64) (codes " ") behind read after → BackStands text generator free line rest → (k ≡ generator) × (read ≡ free) × NumberStands (2 ^ 32) (codes "\n") after line rest
back_line text behind after k generator read free line rest e n s =
    let there = back_free text behind k generator free line rest e s in
    let both = number_both (2 ^ 64) (codes " ") behind after (decimal line ++ (codes "\n" ++ rest)) read free (omega arith) refl n there.1 in
    (there.0, both.0, record { fits = s.line_is; spelled = both.1 })

pub back_of : (text behind after : List ℕ) (generator : Bool) (free line : ℕ) (rest : List ℕ) → KindStands text generator behind → NumberStands (2 ^ 64) (codes " ") behind free after → NumberStands (2 ^ 32) (codes "\n") after line rest → BackStands text generator free line rest
back_of text behind after generator free line rest k n m = record {
  free_is = n.fits;
  line_is = m.fits;
  spelled = k.spelled ∙ ap (before (kind_text generator ∷ codes " " ∷ [])) (n.spelled ∙ ap (before (decimal free ∷ codes " " ∷ [])) m.spelled);
}

back_both : (text : List ℕ) (k generator : Bool) (free free' line line' : ℕ) (x y : List ℕ) → BackStands text k free line x → BackStands text generator free' line' y → (k ≡ generator) × (free ≡ free') × (line ≡ line') × (x ≡ y)
back_both text k generator free free' line line' x y s t =
    let behind = decimal free ++ (codes " " ++ (decimal line ++ (codes "\n" ++ x))) in
    let last = back_line text behind (decimal line ++ (codes "\n" ++ x)) k generator free free' line' y (back_kind text k free line x s) (record { fits = s.free_is; spelled = refl }) t in
    let both = number_both (2 ^ 32) (codes "\n") (decimal line ++ (codes "\n" ++ x)) x y line line' (omega arith) refl (record { fits = s.line_is; spelled = refl }) last.2 in
    (last.0, last.1, both.0, both.1)

-- first lines
abbrev back_text : Bool → ℕ → ℕ → List ℕ → List ℕ
back_text generator free line rest = before (kind_text generator ∷ codes " " ∷ decimal free ∷ codes " " ∷ decimal line ∷ codes "\n" ∷ []) rest

header_front : (n : ℕ) (text : List ℕ) (h : header.Header) (free : ℕ) (rest : List ℕ) → HeaderStands n text h free rest → FrontStands n text h.scope h.params (back_text h.generator free h.line rest)
header_front n text h free rest s = record { scope_is = s.is.scope; each = s.is.params; order = s.is.order; spelled = s.spelled }

pub no_front : (n : ℕ) (text : List ℕ) → ((scope : List ℕ) (params : List (ParamKind × List ℕ)) (rest : List ℕ) → FrontStands n text scope params rest → ⊥) → (h : header.Header) (free : ℕ) (rest : List ℕ) → HeaderStands n text h free rest → ⊥
no_front n text none h free rest s = none h.scope h.params (back_text h.generator free h.line rest) (header_front n text h free rest s)

pub header_back : (n : ℕ) (text behind scope : List ℕ) (params : List (ParamKind × List ℕ)) (h : header.Header) (free : ℕ) (rest : List ℕ) → FrontStands n text scope params behind → HeaderStands n text h free rest
    → (scope ≡ h.scope) × (params ≡ h.params) × BackStands behind h.generator free h.line rest
header_back n text behind scope params h free rest f s =
    let both = front_both n text scope h.scope params h.params behind (back_text h.generator free h.line rest) f (header_front n text h free rest s) in
    (both.0, both.1, record { free_is = s.free_is; line_is = s.is.line; spelled = both.2 })

pub header_of : (n : ℕ) (text behind scope : List ℕ) (params : List (ParamKind × List ℕ)) (generator : Bool) (free line : ℕ) (rest : List ℕ) → FrontStands n text scope params behind → BackStands behind generator free line rest
    → HeaderStands n text (record { scope = scope; params = params; generator = generator; line = line }) free rest
header_of n text behind scope params generator free line rest f b = record {
  is = record { scope = f.scope_is; params = f.each; order = f.order; line = b.line_is };
  free_is = b.free_is;
  spelled = f.spelled ∙ ap (before (codes "code " ∷ decimal n ∷ codes " " ∷ string_text scope ∷ codes " " ∷ string_text (params_text params) ∷ codes " " ∷ [])) b.spelled;
}

header_both : (n : ℕ) (text : List ℕ) (h k : header.Header) (free free' : ℕ) (x y : List ℕ) → HeaderStands n text h free x → HeaderStands n text k free' y → (h ≡ k) × (free ≡ free') × (x ≡ y)
header_both n text h k free free' x y s t =
    let there = header_back n text (back_text h.generator free h.line x) h.scope h.params k free' y (header_front n text h free x s) t in
    let both = back_both (back_text h.generator free h.line x) h.generator k.generator free free' h.line k.line x y (record { free_is = s.free_is; line_is = s.is.line; spelled = refl }) there.2 in
    (ap (λ s. record h { scope = s }) there.0 ∙ ap (λ p. record h { scope = k.scope; params = p }) there.1 ∙ ap (λ g. record h { scope = k.scope; params = k.params; generator = g }) both.0 ∙ ap (λ l. record k { line = l }) both.2, both.1, both.3)

-- codes
abbrev body_text : code.NodeCode → List ℕ → List ℕ
body_text c rest = block_text (codes "  ") (block c.body) ++ rest

pub code_header : (n : ℕ) (text : List ℕ) (c : code.NodeCode) (rest : List ℕ) → CodeStands n text c rest → HeaderStands n text c.header c.free (body_text c rest)
code_header n text c rest s = record {
  is = s.is.header;
  free_is = s.is.free;
  spelled = s.spelled ∙ append_assoc (joined (header_pieces n c.header c.free)) (block_text (codes "  ") (block c.body)) rest ∙ before_is (header_pieces n c.header c.free) (body_text c rest);
}

pub no_header : (n : ℕ) (text : List ℕ) → ((h : header.Header) (free : ℕ) (rest : List ℕ) → HeaderStands n text h free rest → ⊥) → (c : code.NodeCode) (rest : List ℕ) → CodeStands n text c rest → ⊥
no_header n text none c rest s = none c.header c.free (body_text c rest) (code_header n text c rest s)

pub code_body : (n : ℕ) (text behind : List ℕ) (h : header.Header) (free : ℕ) (c : code.NodeCode) (rest : List ℕ) → HeaderStands n text h free behind → CodeStands n text c rest → (h ≡ c.header) × (free ≡ c.free) × BlockStands (codes "  ") behind (block c.body) rest
code_body n text behind h free c rest r s =
    let both = header_both n text h c.header free c.free behind (body_text c rest) r (code_header n text c rest s) in
    (both.0, both.1, record { is = s.is.body; spelled = both.2; all = s.all })

pub code_of : (n : ℕ) (text behind : List ℕ) (c : code.NodeCode) (rest : List ℕ) → HeaderStands n text c.header c.free behind → BlockStands (codes "  ") behind (block c.body) rest → CodeStands n text c rest
code_of n text behind c rest r b = record {
  is = record { header = r.is; free = r.free_is; body = b.is };
  spelled = r.spelled ∙ ap (before (header_pieces n c.header c.free)) b.spelled ∙ sym (before_is (header_pieces n c.header c.free) (body_text c rest)) ∙ sym (append_assoc (joined (header_pieces n c.header c.free)) (block_text (codes "  ") (block c.body)) rest);
  all = b.all;
}

pub code_both : (n : ℕ) (text : List ℕ) (c d : code.NodeCode) (x y : List ℕ) → CodeStands n text c x → CodeStands n text d y → (c ≡ d) × (x ≡ y)
code_both n text c d x y s t =
    let there = code_body n text (body_text c x) c.header c.free d y (code_header n text c x s) t in
    let b = there.2 in
    let both = block_both (codes "  ") (block c.body) (block d.body) x y s.is.body b.is s.all b.all b.spelled in
    (ap (λ h. record c { header = h }) there.0 ∙ ap (λ f. record c { header = d.header; free = f }) there.1 ∙ ap (λ l. record d { body = l }) (block_same c.body d.body both.0), both.1)
