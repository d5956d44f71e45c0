-- What the structs of the code stand for.
use Rattle.svg_texts.specs.Svg.{Picture}
use Rattle.svg_texts.specs.declared.pictures.Picture.{Picture as CodePicture}

abbrev pub picture_of : CodePicture → Picture
picture_of picture = record {
  title = picture.title.now;
  unit = picture.unit.now;
  total = picture.total;
  total_before = picture.total_before;
  width = picture.width;
  root_below = picture.root_below;
}
