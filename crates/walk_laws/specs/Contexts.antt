-- Where the names of a context are among the temporaries of its code.
use Rattle.std.specs.Prelude.{ℕ, ◌-◌, List, map, length, slice_get}
use Rattle.nu_value.specs.declared.header.ParamKind.{ParamKind}
use Rattle.node_tree.specs.Blocks as tree
use Rattle.py_meaning.specs.Scopes.{own_names, local_names, free_names, cells_for, parameter_of}
use Rattle.py_meaning.specs.Resolved.{Context, home_in, header}
use Rattle.carries_base.specs.Frames.{Homes, behind}
use Rattle.carries_names.specs.Begun.{begun_block}
use Rattle.carried_codes.specs.Seats.{Seat, seat}
use Rattle.carried_codes.specs.Nodes.{cells_at}
use Rattle.walk_laws.specs.States.{Coded}

abbrev pub homes_in : Context → Homes
homes_in c =
    let owns = length (own_names c.scopes c.this) in
    let locals = length (local_names c.scopes c.this c.parameters) in
    record { params = length c.parameters; frees = length (free_names c.scopes c.this); owns = owns; locals = locals; filled = locals; made = owns }

abbrev pub seat_in : Context → List ℕ → Seat
seat_in c x = seat (homes_in c) (home_in c x)

-- the temporaries of the cells that the scope with this number gets
abbrev pub cells_in : Context → ℕ → List ℕ
cells_in c inner = cells_at (homes_in c) (cells_for c.scopes c.this inner)

-- the code of a context whose body is made
abbrev pub code_in : Context → List (ParamKind × List ℕ) → tree.Block → Coded
code_in c params b =
    let h = homes_in c in
    let head = header (slice_get c.scopes c.this) params in
    record {
      header = head;
      free = length (free_names c.scopes c.this);
      body = begun_block h head.line (behind h) (h.locals - h.params) (map (parameter_of c.parameters) (own_names c.scopes c.this)) b;
    }
