-- The sample script with n generators: each keeps a total that begins with a number of its own, and a loop drives each to its end and
-- prints the sum of all that they gave.
use Rattle.std.specs.Prelude.{ℕ, ◌+◌, ◌*◌, ◌%◌, List, [], ◌∷◌, ◌++◌, map, codes, decimal}
use Rattle.std.specs.List.{flat_map, range_with_len}
use Rattle.nu_text.specs.Pieces.{joined}

-- what the total of generator i begins with
abbrev pub first_total : ℕ → ℕ
first_total i = (37 * i + 11) % 101

-- the first lines of generator i
abbrev pub heading_text : ℕ → List ℕ
heading_text i = joined (codes "def g" ∷ decimal i ∷ codes "(n):\n" ∷ codes "    t = " ∷ decimal (first_total i) ∷ codes "\n" ∷ [])

-- the lines that all generators share
abbrev pub generator_loop : List ℕ
generator_loop =
    joined (codes "    for i in range(n):\n"
    ∷ codes "        try:\n"
    ∷ codes "            t += yield t * i\n"
    ∷ codes "        finally:\n"
    ∷ codes "            t += 1\n"
    ∷ codes "    return t\n"
    ∷ [])

abbrev pub generator_text : ℕ → List ℕ
generator_text i = heading_text i ++ generator_loop

-- the texts, with a comma and a space between two
abbrev pub listed : List (List ℕ) → List ℕ
listed [] = []
listed (text ∷ []) = text
listed (text ∷ more ∷ texts) = text ++ codes ", " ++ listed (more ∷ texts)

-- the name of generator i
abbrev pub name_text : ℕ → List ℕ
name_text i = codes "g" ++ decimal i

-- the names of the n generators
abbrev pub names_text : ℕ → List ℕ
names_text n = listed (map name_text (range_with_len 0 n))

-- what is done with each generator, and the last line
abbrev pub driver_loop : List ℕ
driver_loop =
    joined (codes "    h = f(3)\n"
    ∷ codes "    v = next(h)\n"
    ∷ codes "    while True:\n"
    ∷ codes "        s += v\n"
    ∷ codes "        try:\n"
    ∷ codes "            v = h.send(v % 7)\n"
    ∷ codes "        except StopIteration as e:\n"
    ∷ codes "            s += e.value\n"
    ∷ codes "            break\n"
    ∷ codes "print(s)\n"
    ∷ [])

-- the lines that drive the n generators
abbrev pub driver_text : ℕ → List ℕ
driver_text n =
    joined (codes "s = 0\n"
    ∷ codes "for f in [" ∷ names_text n ∷ codes "]:\n"
    ∷ driver_loop
    ∷ [])

-- the script
unfoldable pub sample : ℕ → List ℕ
sample n = flat_map generator_text (range_with_len 0 n) ++ driver_text n
