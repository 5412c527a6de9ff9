-- What operations see of the surroundings of a frame, and what paused generators keep.
use Rattle.std.specs.Prelude.{ℕ, zero, suc, List, [], ◌∷◌, Option, None}
use Rattle.nu_value.specs.declared.object.Object.{Object}
use Rattle.op_forms.specs.declared.world.World.{World}

-- what every meaning keeps beside the frames of its functions: the world of operations; what each paused generator keeps, by the
-- number of its object; the bytes of the input that are left; and how many frames are live
pub record Surroundings (K : Type 0) : Type 0 where
  pub world : World
  pub kept : List (Option K)
  pub input : List ℕ
  pub frames : ℕ

-- what operations see: their world, the bytes of the input that are left, and the number of live frames
pub record Scene : Type 0 where
  pub world : World
  pub input : List ℕ
  pub frames : ℕ

abbrev pub scene : {K : Type 0} → Surroundings K → Scene
scene a = record { world = a.world; input = a.input; frames = a.frames }

abbrev pub with_scene : {K : Type 0} → Surroundings K → Scene → Surroundings K
with_scene a s = record { world = s.world; kept = a.kept; input = s.input; frames = s.frames }

-- the world, with other objects
abbrev pub world_with : World → List Object → World
world_with w objects = record { heap = objects; «module» = w.«module»; builtins = w.builtins; codes = w.codes }

abbrev pub with_world : Scene → World → Scene
with_world a w = record { world = w; input = a.input; frames = a.frames }

abbrev pub with_heap : Scene → List Object → Scene
with_heap a objects = with_world a (world_with a.world objects)

abbrev pub with_input : Scene → List ℕ → Scene
with_input a rest = record { world = a.world; input = rest; frames = a.frames }

abbrev pub with_frames : Scene → ℕ → Scene
with_frames a n = record { world = a.world; input = a.input; frames = n }

-- what the generator of this number keeps, if it is paused
abbrev pub kept_at : {K : Type 0} → List (Option K) → ℕ → Option K
kept_at [] n = None
kept_at (k ∷ ks) zero = k
kept_at (k ∷ ks) (suc n) = kept_at ks n

abbrev pub keep_at : {K : Type 0} → List (Option K) → ℕ → Option K → List (Option K)
keep_at [] zero x = x ∷ []
keep_at [] (suc n) x = None ∷ keep_at [] n x
keep_at (k ∷ ks) zero x = x ∷ ks
keep_at (k ∷ ks) (suc n) x = k ∷ keep_at ks n x

abbrev pub with_kept : {K : Type 0} → Surroundings K → ℕ → Option K → Surroundings K
with_kept a n x = record { world = a.world; kept = keep_at a.kept n x; input = a.input; frames = a.frames }
