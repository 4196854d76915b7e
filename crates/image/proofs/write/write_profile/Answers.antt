-- `image::write::write_profile` meets its contract: the parts fill the image. Assumes nothing.
use Rattle.image.specs.Image.{Fits}
use Rattle.image.proofs.ImageLaws.{image_made, profile_written}
use Rattle.image.proofs.write.write_profile.Goals as goal

pub returns : goal.returns
returns c =
    let p = c.args.p in
    let numbers = c.append_words-trips.ensures in
    let points = c.append_trips.ensures in
    let fits : Fits p =
    record {
      serial = numbers.small.0;
      volts = numbers.small.1;
      hertz = numbers.small.2;
      trips = points.trips_fit;
      kinds = c.requires.p_value;
    } in
    profile_written p (image_made p c.requires.out_len c.append_head-ratings.ensures numbers.appended points.appended) fits
