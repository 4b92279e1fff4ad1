mod ReadDown
