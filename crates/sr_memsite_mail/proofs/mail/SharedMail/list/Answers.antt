use Rattle.std.proofs.Common.{◌≡◌, subst, ◌<◌, ◌≤◌, ◌++◌, ◌∷◌, [], ◌∙◌, ap, true, map, length, take, rules}
use Rattle.std.proofs.Common.{nat_lt}
use Rattle.std.proofs.lemmas.Map.Iter.{iter_end}
use Rattle.std.specs.Map.Iter.{deref_pair}
use Rattle.sr_memsite_mail.specs.Inner.Folders.{is_in, names_in}
use Rattle.sr_site.specs.Listings.{AreAscending, most_names}
use Rattle.sr_memsite_mail.proofs.Listings.{Lent, file_of, listed_room, listed_full, listed_all}
use Rattle.sr_memsite_mail.proofs.Rising.{folder_rises, first_names}
use Rattle.sr_memsite_mail.proofs.mail.SharedMail.list.Goals as goal

pub files-preserved-in_ok-push : goal.files-preserved-in_ok-push
files-preserved-in_ok-push c =
    let file : Lent = (c.in-Some.place, c.in-Some.file) in
    let inside : is_in c.args.address.now (file_of file) ≡ true = search rules in
    let room : length c.files.names.items < 65536 = search rules in
    let added : c.push.new.self.items ≡ c.files.names.items ++ c.in-Some.place.now.name ∷ [] = search rules in
    listed_room _ _ _ c.files.yielded file _ c.files.invariant inside room added

pub files-preserved-else-len-lt-MOST_NAMES : goal.files-preserved-else-len-lt-MOST_NAMES
files-preserved-else-len-lt-MOST_NAMES c =
    let file : Lent = (c.in-Some.place, c.in-Some.file) in
    let inside : is_in c.args.address.now (file_of file) ≡ true = search rules in
    let full : 65536 ≤ length c.files.names.items = search rules in
    listed_full _ _ c.files.yielded file _ c.files.invariant inside full

pub returns-clause-lists : goal.returns-clause-lists
returns-clause-lists c =
    let all : map deref_pair c.files.yielded ≡ c.self.inside.files.entries = search (rules, iter_end) in
    let same = listed_all _ _ _ _ all c.self.view_is in
    record {
      ascending = subst AreAscending (ap (λ files. names_in files c.args.address.now) same) (folder_rises c.files.yielded _ c.args.address.now all c.iter-place-items.ensures.ordered);
      names = c.from_vec.ensures.items ∙ c.files.invariant.0 ∙ ap (λ files. take most_names (names_in files c.args.address.now)) same;
      more = c.files.invariant.1 ∙ ap (λ files. nat_lt most_names (length (names_in files c.args.address.now))) same;
    }

pub returns-clause-listing : goal.returns-clause-listing
returns-clause-listing c =
    let lists = returns-clause-lists c in
    first_names _ _ lists.ascending lists.names lists.more
