-- What lies ahead of a cursor.
use Rattle.std.specs.Prelude.{ℕ, List, drop}
use Rattle.source.specs.Sources.{text_of}
use Rattle.source.specs.declared.cursor.Cursor.{Cursor}

abbrev pub ahead : Cursor → List ℕ
ahead c = drop c.position.offset (text_of c.source)
