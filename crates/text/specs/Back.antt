-- The promise that sent texts come back.
use Rattle.std.specs.Prelude.{ℕ, ◌≤◌, ◌≡◌, List, false, length}
use Rattle.base.specs.Leading.{leading}
use Rattle.text.specs.Coding.{char_ok, ends_in_space, groups_in}
use Rattle.text.specs.Heard.{heard_text}
use Rattle.text.specs.declared.Coding.{Coding}

-- a text whose bytes are all characters of its coding, and which doesn't end in a space where it is numeric, is heard from
-- its groups as it was sent
abbrev pub Back : Type 0
Back = (c : Coding) (bytes : List ℕ) → length bytes ≤ leading (char_ok c) bytes → ends_in_space c bytes ≡ false → heard_text c (groups_in c bytes) ≡ bytes
