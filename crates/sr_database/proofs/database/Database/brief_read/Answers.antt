use Rattle.std.proofs.Common.{◌≡◌, ◌≤◌, ◌<◌, sym, ap, subst}
use Rattle.std.specs.Prelude.{IfOk, IfSome}
use Rattle.sr_logfile.specs.Log.{Log}
use Rattle.sr_database.specs.Views.{View}
use Rattle.sr_database.proofs.Behind.{parts_of, behind_refused, stays_database}
use Rattle.sr_database.proofs.database.Database.brief_read.Goals as goal

pub brief_behind-requires : goal.brief_behind-requires
brief_behind-requires g c =
    let log_is : c.args.self.now.log ≡ c.self.inside.log = sym (ap (λ (v : View). v.log) c.self.view_is) in
    record { after = subst (λ (l : Log). (l.base ≤ c.args.after.0) × (c.args.after.0 ≤ l.end)) log_is c.requires.after }

pub returns-clause-brief : goal.returns-clause-brief
returns-clause-brief g c told publisher done left database is =
    let log_is : c.args.self.now.log ≡ c.self.inside.log = sym (ap (λ (v : View). v.log) c.self.view_is) in
    c.brief_behind.ensures.brief told publisher done left (parts_of c.args.self.now c.self.inside.log log_is c.args.after c.requires.after.0 (g.S.Held.seen c.args.site.now) (g.S.Held.seen c.brief_behind.new.site) publisher done left database is)

pub returns-clause-within : goal.returns-clause-within
returns-clause-within g c =
    let log_is : c.self.inside.log ≡ c.args.self.now.log = ap (λ (v : View). v.log) c.self.view_is in
    subst (λ (l : Log). IfOk c.brief_behind.result (λ found. IfSome found (λ x. (c.args.after.0 < x.0.0) × (x.0.0 ≤ l.end)))) log_is c.brief_behind.ensures.within

pub returns-clause-files : goal.returns-clause-files
returns-clause-files g c = c.brief_behind.ensures.read.files

pub returns-clause-happened : goal.returns-clause-happened
returns-clause-happened g c = c.brief_behind.ensures.read.happened

pub returns-clause-stays : goal.returns-clause-stays
returns-clause-stays g c = c.brief_behind.ensures.read.stays

pub returns-clause-database : goal.returns-clause-database
returns-clause-database g c told publisher es database =
    let read = c.brief_behind.ensures.read in
    stays_database c.args.self.now publisher es _ _ read.stays.first (read.files told) (read.happened told) database

pub returns-clause-cause : goal.returns-clause-cause
returns-clause-cause g c =
    let log_is : c.args.self.now.log ≡ c.self.inside.log = sym (ap (λ (v : View). v.log) c.self.view_is) in
    behind_refused c.args.self.now c.self.inside.log log_is c.args.after c.requires.after.0 (g.S.Held.seen c.args.site.now) (g.S.Held.seen c.brief_behind.new.site) _ c.brief_behind.ensures.cause
