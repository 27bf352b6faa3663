use Rattle.std.proofs.Common.{◌∙◌, ap, ap₂, sym, subst, [], refl}
use Rattle.dbremote_demo.proofs.Keeping.{kept_back, kept_handed}
use Rattle.dbremote_demo.proofs.Lent.{ran_so}
use Rattle.dbremote_demo.specs.Inner.Branches.{IsKeptAt}
use Rattle.sr_memsite_disk.specs.Stores.{no_bytes}
use Rattle.sr_memsite_mail.specs.Folders.{Folders}
use Rattle.sr_memsite.specs.Disks.{Disk, begun_with}
use Rattle.sr_memsite.specs.Handing.{handed}
use Rattle.sr_memsite.specs.Meaning.{begun}
use Rattle.sr_memsite.specs.Inner.Meaning.{seen_of}
use Rattle.sr_memsite.specs.Inner.Streams.{input_of, output_of, sink_faults, taken_of}
use Rattle.dbremote_demo.proofs.inner.do_order.Goals as goal

pub returns : goal.returns
returns c = record {
  ran = ran_so (record { demo_site = c.args.demo_site; order = c.args.order.now; script = c.args.script.items }) c.args.demo_sites.now c.lend-disk.new.self c.take_back.new.self
      (begun_with no_bytes) c.apart-disk.result.0 (record { files = []; puts = [] }) c.apart-disk.result.1 (seen_of c.with-site.result) (seen_of c.command-status.new.site)
      (input_of c.new-input.result) (input_of c.command-status.new.input) (output_of c.new-output.result) (taken_of c.command-status.new.output)
      (sink_faults c.command-status.new.output) c.command-status.result
      (c.with-site.ensures.seen ∙ ap₂ (λ (disk : Disk) (mail : Folders). begun (handed disk mail)) c.lend-disk.ensures.disk c.lend-disk.ensures.mail) c.new-input.ensures.seen
      c.new-output.ensures.seen c.command-status.ensures.ran c.command-status.ensures.stays c.command-status.ensures.tells c.lend-disk.ensures.left
      c.take_back.ensures.back (ap (λ (p : Disk × Folders). p.0) c.apart-disk.ensures.parts) c.apart-disk.ensures.as_happened c.apart-disk.ensures.truthful;
}

pub take_back-requires : goal.take_back-requires
take_back-requires c = record {
  kept = kept_back c.command-status.new.kept (seen_of c.command-status.new.site) c.apart-disk.result.0 (ap (λ (p : Disk × Folders). p.0) c.apart-disk.ensures.parts) refl
      (c.command-status.ensures.kept refl);
}

pub command-status-requires-clause-kept : goal.command-status-requires-clause-kept
command-status-requires-clause-kept c =
    kept_handed c.lend-disk.result.kept c.lend-disk.result.disk c.lend-disk.result.mail (seen_of c.with-site.result) c.with-site.ensures.seen
    (subst (λ (d : Disk). IsKeptAt c.lend-disk.result.kept d) (sym c.lend-disk.ensures.disk) c.lend-disk.ensures.kept)
