-- What a read answers.
use Rattle.std.specs.Prelude.{◌≡◌, ℕ, ◌-◌, List, length, take, drop, min}

-- a read of so many bytes at a place gave the first of them that the file has, at the buffer's front
pub record HasRead (bytes : List ℕ) (place wanted count : ℕ) (buffer : List ℕ) : Type 0 where
  pub count_is : count ≡ min wanted (length bytes - place)
  pub prefix : take count buffer ≡ take wanted (drop place bytes)
