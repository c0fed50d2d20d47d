-- What is found fits what lies ahead, and cuts no character.
use Rattle.std.specs.Prelude.{◌≡◌, ◌≤◌, true}
use Rattle.utf8.specs.Utf8.{bound}
use Rattle.rules.specs.Found.{Found, Lexed, Fails, Unclosed}
use Rattle.lexer.specs.States.{State, ahead}

abbrev pub Sized : State → Found → Type 0
Sized σ (Lexed k n) = n ≤ 65536
Sized σ (Fails c distance n) = (bound (ahead σ) distance ≡ true) × (n ≤ 65544)
Sized σ Unclosed = Unit {0}
