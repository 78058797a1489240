mod OneRoute
