use Rattle.listing.proofs.pen.Pen.+put_path.Given as goal

abbrev pub decreases-put_path : goal.decreases-put_path
decreases-put_path l = l.names
