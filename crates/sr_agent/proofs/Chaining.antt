-- One turn, and one delivery, after those before it.
use Rattle.std.proofs.Common.{◌≡◌, Bool, true, ℕ, List, [], ◌∷◌, ◌++◌, map, refl, sym, ap, subst, ◌∙◌, append_assoc}
use Rattle.sr_book.specs.Entries.{Name}
use Rattle.sr_database.specs.Databases.{IsDatabase}
use Rattle.sr_database.specs.Views.{View}
use Rattle.sr_database_history.specs.Recorded.{Recorded}
use Rattle.sr_receive_gather.specs.MessageFiles.{FetchedFile}
use Rattle.sr_site.specs.Happenings.{Happening, sent, mail_in}
use Rattle.sr_site.specs.Seen.{Seen}
use Rattle.sr_database_meaning.specs.Events.{Event, commit, put, commits}
use Rattle.sr_database_meaning.proofs.Joining.{joined}
use Rattle.sr_agent.specs.Deliveries.{after_deliveries, deliveries_events, deliveries_lines, delivery_events, with_puts}
use Rattle.sr_agent.specs.Lines.{Line}
use Rattle.sr_agent.specs.Inner.Steps.{TookDelivery, TookDeliveries, TookPartnerPass, TookPartnerPasses}
use Rattle.sr_agent.specs.PartnerPasses.{after_partner_passes, partners_in, partner_pass_entries, partner_pass_mail, partner_passes_entries, partner_passes_lines}
use Rattle.sr_agent.specs.declared.partner.Partner.{Partner}
use Rattle.sr_agent.proofs.DoneWith.{removes_then}
use Rattle.sr_agent.proofs.Joints.{commits-append, steady_on, went_more}

-- ---- partners' passes

abbrev partner_of : Name → Bool → Partner
partner_of user ask = record { user = user; ask = ask }

pub partner_passes_more : (middle new : View) (before seen now : Seen) (publisher : Name) (es : List Recorded) (fetched_files : List FetchedFile) (purge : Bool) (done : List Name) (user : Name) (asks : List Partner) (ask : Bool)
    (earlier lines : List Line) (took : TookPartnerPasses middle before seen publisher es fetched_files purge done asks earlier)
    → TookPartnerPass new seen now publisher (after_partner_passes publisher es fetched_files took.partner_passes) fetched_files purge user ask lines
    → TookPartnerPasses new before now publisher es fetched_files purge (done ++ user ∷ []) (asks ++ partner_of user ask ∷ []) (earlier ++ lines)
partner_passes_more middle new before seen now publisher es fetched_files purge done user asks ask earlier lines took one =
    let added = partner_passes_entries publisher es fetched_files took.partner_passes in
    let more = partner_pass_entries publisher (es ++ added) fetched_files one.partner_pass in
    record {
      partner_passes = one.partner_pass ∷ took.partner_passes;
      whose = ap (λ (names : List Name). names ++ one.partner_pass.user ∷ []) took.whose ∙ ap (λ (name : Name). done ++ name ∷ []) one.user_is;
      are = (took.are, one.is);
      database = subst (λ (rs : List Recorded). IsDatabase new publisher rs now) (append_assoc es added more) one.database;
      steady = steady_on before seen now took.steady one.steady;
      went = went_more before seen now publisher es added more took.went one.went;
      mail = one.mail ∙ ap (λ (l : List Happening). partner_pass_mail publisher (es ++ added) fetched_files purge one.partner_pass l) took.mail;
      removals = removes_then before seen now publisher es (map commit added) fetched_files took.went took.removals one.removals;
      asks_are =
          ap (λ (ps : List Partner). ps ++ partner_of user ask ∷ []) took.asks_are
          ∙ ap (λ (name : Name). partners_in publisher es fetched_files took.partner_passes ++ partner_of name ask ∷ []) (sym one.user_is)
          ∙ ap (λ (b : Bool). partners_in publisher es fetched_files took.partner_passes ++ partner_of one.partner_pass.user b ∷ []) one.ask_is;
      lines_are = ap (λ (ls : List Line). ls ++ lines) took.lines_are ∙ ap (λ (ls : List Line). partner_passes_lines publisher es fetched_files took.partner_passes ++ ls) one.lines_are;
    }

-- ---- deliveries

-- puts, and then puts
pub with_puts-append : (events more : List Event) (before : List Happening) → with_puts (events ++ more) before ≡ with_puts more (with_puts events before)
with_puts-append [] more before = refl
with_puts-append (commit r ∷ events) more before = with_puts-append events more before
with_puts-append (put address name bytes ∷ events) more before = with_puts-append events more (sent address name bytes true ∷ before)

abbrev pub deliveries_more : (base : ℕ) (middle new : View) (before seen now : Seen) (publisher : Name) (es : List Recorded) (limit : ℕ) (done : List Partner) (partner : Partner) (earlier lines : List Line)
    (took : TookDeliveries base middle before seen publisher es limit done earlier) → TookDelivery middle.log.base new seen now publisher (after_deliveries publisher es took.deliveries) limit partner lines
    → TookDeliveries base new before now publisher es limit (done ++ partner ∷ []) (earlier ++ lines)
deliveries_more base middle new before seen now publisher es limit done partner earlier lines took one =
    let added = deliveries_events publisher es took.deliveries in
    let more = delivery_events publisher (es ++ commits added) one.delivery in
    record {
      deliveries = one.delivery ∷ took.deliveries;
      based = (took.based, one.based ∙ took.base_is);
      whom = ap (λ (ps : List Partner). ps ++ one.delivery.partner ∷ []) took.whom ∙ ap (λ (p : Partner). done ++ p ∷ []) one.whom;
      are = (took.are, one.is);
      database = subst (λ (rs : List Recorded). IsDatabase new publisher rs now) (append_assoc es (commits added) (commits more) ∙ ap (λ (rs : List Recorded). es ++ rs) (sym (commits-append added more))) one.database;
      base_is = one.base_is ∙ took.base_is;
      steady = steady_on before seen now took.steady one.steady;
      went = joined before seen now publisher es added more took.went one.went;
      mail = one.mail ∙ ap (λ (l : List Happening). with_puts more l) took.mail ∙ sym (with_puts-append added more (mail_in before.happened));
      lines_are = ap (λ (ls : List Line). ls ++ lines) took.lines_are ∙ ap (λ (ls : List Line). deliveries_lines publisher es took.deliveries ++ ls) one.lines_are;
    }
