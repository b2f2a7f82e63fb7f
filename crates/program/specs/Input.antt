-- What reading an input answers: how many bytes, also where a read failed.
use Rattle.std.specs.Prelude.{ℕ, Result, Ok, Err}
use Rattle.program.specs.declared.Unread.{Unread}

-- the bytes that were read
abbrev pub bytes_read : Result ℕ Unread → ℕ
bytes_read (Ok n) = n
bytes_read (Err e) = e.bytes
