use Rattle.std.proofs.Common.{rules, ◌∙◌, ap, List}
use Rattle.std.proofs.lemmas.Map.Made.{map_same_pairs}
use Rattle.sr_memsite_mail.specs.Folders.{Folders}
use Rattle.sr_memsite_mail.specs.Inner.Folders.{let_go, released}
use Rattle.sr_memsite_mail.specs.StoredFile.{StoredFile}
use Rattle.sr_memsite_mail.specs.declared.place.Place.{Place}
use Rattle.sr_memsite_mail.proofs.mail.SharedMail.release.Goals as goal

pub returns : goal.returns
returns c =
    let same = map_same_pairs _ let_go _ (λ k v b w f' t. search rules) _ _ c.retain.ensures.filtered in
    record { released = ap (λ (files : List (Place × StoredFile)). record { files = files; puts = c.self.inside.puts.items }) same ∙ ap (λ (folders : Folders). released folders) c.self.view_is }
