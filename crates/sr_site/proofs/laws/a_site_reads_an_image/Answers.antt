use Rattle.sr_site.proofs.laws.a_site_reads_an_image.Goals as goal

pub returns : goal.returns
returns g c = record { image = λ told. g.S.Held.read_is_image c.args._site.now told }
