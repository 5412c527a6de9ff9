-- The text of the module of built-in names.
use Rattle.std.specs.Prelude.{ℕ, List}
use Rattle.built_in_text.specs.declared.TheConstants.{BUILT_IN}

-- the text in the source, byte by byte; what stands above reads no byte of it, so it stays folded there
unfoldable pub built_in : List ℕ
built_in = BUILT_IN.now
