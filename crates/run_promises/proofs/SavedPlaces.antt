-- The places in a saved state are those of fields: the job's term stands at its place and so does each body, by reading; and the machine keeps it. Assumes nothing.
use Rattle.tables.proofs.ReadsTable.{reads_bodies}
use Rattle.files.proofs.WhatStands.{job_stands}
use Rattle.evaluation.proofs.PlacedLaws.{run-placed}
use Rattle.run_promises.specs.SavedPlaces.{file_of, Places-stand}
use Rattle.run_promises.proofs.RunPromises.{at_job}

pub places_stand : Places-stand
places_stand t f n x =
    run-placed (file_of t f) x.table (reads_bodies t x.table x.table_read) n n (at_job x.job) x.place x.job.term x.term x.job.goals x.goals x.waiting
    (job_stands f x.job x.job_read).term_stands x.stands
