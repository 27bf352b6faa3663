-- What a crash may leave of files.
-- Here is what no contract of the program says by itself.
use Rattle.std.specs.Prelude.{◌⊎◌}
use Rattle.sr_site.specs.Files.{Files}
use Rattle.sr_site.specs.Seen.{Seen}
use Rattle.sr_site.specs.Images.{IsImage}

-- a crash leaves files for which the one or the other holds
abbrev pub RestsOn : (Files → Type 0) → (Files → Type 0) → Seen → Type 0
RestsOn before after seen = (image : Files) → IsImage seen image → before image ⊎ after image
