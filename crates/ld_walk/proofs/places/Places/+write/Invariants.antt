use Rattle.ld_walk.proofs.places.Places.+write.Given as goal

abbrev pub decreases-write : goal.decreases-write
decreases-write l = l.number
