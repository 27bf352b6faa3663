-- A window over a file, as contracts see it.
use Rattle.std.specs.Prelude.{◌≤◌, ◌<◌, ◌^◌, ℕ, ◌+◌, List, length, drop}

-- the bytes that it holds, the place of the first of them in the file, and how many bytes the file has
pub record View : Type 0 where
  pub held : List ℕ
  pub place : ℕ
  pub size : ℕ

-- of these bytes it holds those behind the first ones; they lie within the file, whose length is a number of 64 bits
pub record LiesWithin (bytes : List ℕ) (start place size : ℕ) : Type 0 where
  pub started : start ≤ length bytes
  pub within : place + length (drop start bytes) ≤ size
  pub short : size < 2 ^ 64
